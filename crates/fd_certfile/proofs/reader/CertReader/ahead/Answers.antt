use Rattle.std.proofs.Common.{◌≡◌, ◌+◌, Err, ap, sym, subst, ◌∙◌}
use Rattle.fd_certfile.specs.Reader.{ReaderView, next_of, starts_with_end}
use Rattle.fd_certfile.specs.Ahead.{IsAhead}
use Rattle.fd_settle.specs.fd_cert.declared.rule.Rule.TheVariants.{Count, Grammar, Size}
use Rattle.fd_certfile.proofs.NextBlock.{next_due, next_ended, next_other, next_refused}
use Rattle.fd_certfile.proofs.reader.CertReader.ahead.Goals as goal

pub returns-then-is_ended : goal.returns-then-is_ended
returns-then-is_ended c =
    subst (λ (r : ReaderView). next_of r c.args.size ≡ Err (c.self.inside.line, Count)) c.self.view_is
    (next_ended _ c.args.size (sym c.if-is_ended.true ∙ c.is_ended.ensures))

pub returns-then-is_due : goal.returns-then-is_due
returns-then-is_due c =
    next_due c.args.self.now c.args.size c.in-Ok.ahead
    (sym c.if-is_ended.false ∙ c.is_ended.ensures ∙ ap (λ (r : ReaderView). starts_with_end r.lines) c.self.view_is)
    (subst (λ (r : ReaderView). IsAhead r.version c.args.size r.lines c.in-Ok.ahead) c.self.view_is c.in-Ok.ensures)
    (sym c.if-is_due.true ∙ c.is_due.ensures)

pub returns-else-is_due : goal.returns-else-is_due
returns-else-is_due c =
    next_other c.args.self.now c.args.size c.in-Ok.ahead
    (sym c.if-is_ended.false ∙ c.is_ended.ensures ∙ ap (λ (r : ReaderView). starts_with_end r.lines) c.self.view_is)
    (subst (λ (r : ReaderView). IsAhead r.version c.args.size r.lines c.in-Ok.ahead) c.self.view_is c.in-Ok.ensures)
    (sym c.if-is_due.false ∙ c.is_due.ensures)
    ∙ ap (λ (r : ReaderView). Err (r.line, Size)) (sym c.self.view_is)

pub returns-in-Err-Refused : goal.returns-in-Err-Refused
returns-in-Err-Refused c =
    subst (λ (r : ReaderView). next_of r c.args.size ≡ Err (c.self.inside.line + c.in-Err-Refused.behind, Grammar))
    c.self.view_is (next_refused _ c.args.size c.in-Err-Refused.behind
    (sym c.if-is_ended.false ∙ c.is_ended.ensures) (rw c.in-Err-Refused.field-0-is at c.in-Err-Refused.ensures))
