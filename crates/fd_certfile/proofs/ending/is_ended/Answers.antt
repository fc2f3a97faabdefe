use Rattle.std.proofs.Common.{◌∷◌, sym, ◌∙◌, ap}
use Rattle.fd_certfile.specs.Lines.{lines_of}
use Rattle.fd_certfile.specs.Reader.{starts_with_end}
use Rattle.fd_certfile.proofs.Endings.{rest_starts}
use Rattle.fd_certfile.proofs.Lines.{of_last}
use Rattle.fd_certfile.proofs.Reading.{lines_cut}
use Rattle.fd_certfile.proofs.ending.is_ended.Goals as goal

pub returns-in-Some : goal.returns-in-Some
returns-in-Some c =
    c.is_end.ensures
    ∙ sym (ap starts_with_end (lines_cut c.args.bytes.now c.in-Some.text.now c.in-Some.field-0-1.now
    c.in-Some.ensures.before c.in-Some.ensures.whole
    ∙ ap (λ l. l ∷ lines_of c.in-Some.field-0-1.now) (sym c.read_line.ensures)))

pub returns-in-None : goal.returns-in-None
returns-in-None c = rest_starts c.args.bytes.now
    ∙ sym (ap starts_with_end (of_last c.args.bytes.now c.in-None.ensures.none))
