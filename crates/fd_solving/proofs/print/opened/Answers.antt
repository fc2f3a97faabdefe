use Rattle.std.proofs.Common.{◌∙◌, ◌++◌, List, ℕ, map, ap, sym}
use Rattle.std.proofs.lemmas.List.{map-append}
use Rattle.fd_pages.specs.fd_outside.Emitted.{pieces_of}
use Rattle.fd_pages.specs.fd_outcome.Behind.{has_text}
use Rattle.fd_pages.specs.fd_outcome.Calls.{writes}
use Rattle.fd_solving.proofs.Handed.{opened_first, opened_nothing}
use Rattle.fd_solving.proofs.print.opened.Goals as goal

pub returns-in_ok-append : goal.returns-in_ok-append
returns-in_ok-append g c =
    let some =
    sym (ap (λ rs. has_text (map writes (pieces_of rs))) c.as_slice.ensures.value) ∙ sym c.has_text.ensures
    ∙ c.if-has_text.true in
    let texts = pieces_of c.args.texts.items in
    ap (λ rs. map writes (pieces_of rs)) c.in_ok-append.ensures.items
    ∙ ap (map writes)
    (map-append _ c.in_ok-all.all.items c.args.texts.items
    ∙ ap (λ (l : List (List ℕ)). l ++ texts) c.in_ok-all.ensures)
    ∙ opened_first g.P.Page.style.opening texts some

pub returns-else-has_text : goal.returns-else-has_text
returns-else-has_text g c =
    let none =
    sym (ap (λ rs. has_text (map writes (pieces_of rs))) c.as_slice.ensures.value) ∙ sym c.has_text.ensures
    ∙ c.if-has_text.false in
    opened_nothing g.P.Page.style.opening (pieces_of c.args.texts.items) none
