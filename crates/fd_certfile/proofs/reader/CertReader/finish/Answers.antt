use Rattle.std.proofs.Common.{◌≡◌, ℕ, ◌+◌, List, ◌∷◌, length, Ok, Err, sym, subst, ◌∙◌, ap, rules}
use Rattle.std.specs.Prelude.{map}
use Rattle.std.proofs.lemmas.List.{length-map}
use Rattle.fd_certfile.specs.Lines.{Line, lines_of}
use Rattle.fd_certfile.specs.Reader.{ReaderView, finish_of, finished, given_block}
use Rattle.fd_certfile.specs.Views.{view}
use Rattle.fd_settle.specs.fd_cert.declared.rule.Rule.TheVariants.{Count, Grammar}
use Rattle.fd_certfile.proofs.Endings.{finish_left, finish_more, finish_nothing, finish_other, finish_rest}
use Rattle.fd_certfile.proofs.Lines.{of_last}
use Rattle.fd_certfile.proofs.Reading.{lines_cut}
use Rattle.fd_certfile.proofs.reader.CertReader.finish.Goals as goal

pub returns-in_default : goal.returns-in_default
returns-in_default c =
    let count = length (map given_block c.self.inside.given.items) in
    subst (λ (r : ReaderView). finish_of r ≡ Err (c.self.inside.line, Grammar)) c.self.view_is
    (ap (λ (ls : List Line). finished ls c.self.inside.line count) (of_last c.self.inside.rest.now (search rules))
    ∙ finish_rest c.self.inside.rest.now c.self.inside.line count)

pub returns-then-is_empty : goal.returns-then-is_empty
returns-then-is_empty c =
    let count = length (map given_block c.self.inside.given.items) in
    let lines = lines_cut c.self.inside.rest.now c.in-Some.text.now c.in-Some.rest.now c.in-Some.ensures.before c.in-Some.ensures.whole
    ∙ ap (λ l. l ∷ lines_of c.in-Some.rest.now) (sym c.read_line-line.ensures) in
    subst (λ (r : ReaderView). finish_of r ≡ Ok c.len.result) c.self.view_is
    (ap (λ (ls : List Line). finished ls c.self.inside.line count) lines
    ∙ finish_nothing c.self.inside.line count (view c.read_line-line.result) c.in-Some.rest.now (sym c.if-is_end.true ∙ c.is_end.ensures) (search rules)
    ∙ ap (λ (k : ℕ). Ok k) (length-map c.self.inside.given.items given_block ∙ search rules))

pub returns-then-is_end : goal.returns-then-is_end
returns-then-is_end c =
    let count = length (map given_block c.self.inside.given.items) in
    let lines = lines_cut c.self.inside.rest.now c.in-Some.text.now c.in-Some.rest.now c.in-Some.ensures.before c.in-Some.ensures.whole
    ∙ ap (λ l. l ∷ lines_of c.in-Some.rest.now) (sym c.read_line-line.ensures) in
    subst (λ (r : ReaderView). finish_of r ≡ Err (c.self.inside.line + 1, Grammar)) c.self.view_is
    (ap (λ (ls : List Line). finished ls c.self.inside.line count) lines
    ∙ finish_more c.self.inside.line count (view c.read_line-line.result) c.in-Some.rest.now (sym c.if-is_end.true ∙ c.is_end.ensures) (search rules))

pub returns-then-is_solution : goal.returns-then-is_solution
returns-then-is_solution c =
    let count = length (map given_block c.self.inside.given.items) in
    let lines = lines_cut c.self.inside.rest.now c.in-Some.text.now c.in-Some.rest.now c.in-Some.ensures.before c.in-Some.ensures.whole
    ∙ ap (λ l. l ∷ lines_of c.in-Some.rest.now) (sym c.read_line-line.ensures) in
    subst (λ (r : ReaderView). finish_of r ≡ Err (c.self.inside.line, Count)) c.self.view_is
    (ap (λ (ls : List Line). finished ls c.self.inside.line count) lines
    ∙ finish_left c.self.inside.line count (view c.read_line-line.result) (lines_of c.in-Some.rest.now) (sym c.if-is_solution.true ∙ c.is_solution.ensures))

pub returns : goal.returns
returns c =
    let count = length (map given_block c.self.inside.given.items) in
    let lines = lines_cut c.self.inside.rest.now c.in-Some.text.now c.in-Some.rest.now c.in-Some.ensures.before c.in-Some.ensures.whole
    ∙ ap (λ l. l ∷ lines_of c.in-Some.rest.now) (sym c.read_line-line.ensures) in
    subst (λ (r : ReaderView). finish_of r ≡ Err (c.self.inside.line, Grammar)) c.self.view_is
    (ap (λ (ls : List Line). finished ls c.self.inside.line count) lines
    ∙ finish_other c.self.inside.line count (view c.read_line-line.result) (lines_of c.in-Some.rest.now)
    (sym c.if-is_end.false ∙ c.is_end.ensures) (sym c.if-is_solution.false ∙ c.is_solution.ensures))
