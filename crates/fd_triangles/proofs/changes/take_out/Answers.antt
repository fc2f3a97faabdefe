use Rattle.std.proofs.Common.{◌∙◌, ap, sym, subst, pos, FitsSigned, rules}
use Rattle.std.specs.Int.{w64}
use Rattle.std.proofs.lemmas.Int.{to_z-of_z}
use Rattle.std.proofs.lemmas.List.{get_or_read}
use Rattle.fd_derived.specs.declared.entries.Entry.{Entry}
use Rattle.fd_triangles.specs.Rows.{IsAt, IsGap, IsRow, WithNumber}
use Rattle.fd_triangles.proofs.Entries.{number_here, number_nowhere, row_remove, with_nothing, with_remove}
use Rattle.fd_triangles.proofs.changes.take_out.Goals as goal

pub returns-in-Ok-clause-number : goal.returns-in-Ok-clause-number
returns-in-Ok-clause-number c =
    let row = c.args.row.now.items in
    let here : IsAt row c.args.place c.in-Ok.at =
    subst (λ l. IsAt l c.args.place c.in-Ok.at) c.deref.ensures.value c.in-Ok.ensures.found in
    let f : FitsSigned w64 c.remove.result.units = search rules in
    to_z-of_z w64 c.remove.result.units f
    ∙ ap (λ (e : Entry). e.units) (get_or_read row c.in-Ok.at c.remove.result here.in_range c.remove.ensures.value _)
    ∙ sym (number_here row c.requires c.args.place c.in-Ok.at here)

pub returns-in-Ok-clause-numbers : goal.returns-in-Ok-clause-numbers
returns-in-Ok-clause-numbers c =
    let row = c.args.row.now.items in
    let here : IsAt row c.args.place c.in-Ok.at =
    subst (λ l. IsAt l c.args.place c.in-Ok.at) c.deref.ensures.value c.in-Ok.ensures.found in
    subst (λ l. WithNumber row l c.args.place (pos 0)) (sym c.remove.ensures.items)
    (with_remove row c.requires c.args.place c.in-Ok.at here)

pub returns-in-Ok-clause-row : goal.returns-in-Ok-clause-row
returns-in-Ok-clause-row c n is =
    let row = c.args.row.now.items in
    let here : IsAt row c.args.place c.in-Ok.at =
    subst (λ l. IsAt l c.args.place c.in-Ok.at) c.deref.ensures.value c.in-Ok.ensures.found in
    subst (IsRow n) (sym c.remove.ensures.items) (row_remove n row is c.args.place c.in-Ok.at here)

pub returns-in-Err-clause-number : goal.returns-in-Err-clause-number
returns-in-Err-clause-number c =
    let row = c.args.row.now.items in
    let gap : IsGap row c.args.place c.in-Err.field-0 =
    subst (λ l. IsGap l c.args.place c.in-Err.field-0) c.deref.ensures.value c.in-Err.ensures.gap in
    sym (number_nowhere row c.args.place c.in-Err.field-0 gap)

pub returns-in-Err-clause-numbers : goal.returns-in-Err-clause-numbers
returns-in-Err-clause-numbers c =
    let row = c.args.row.now.items in
    let gap : IsGap row c.args.place c.in-Err.field-0 =
    subst (λ l. IsGap l c.args.place c.in-Err.field-0) c.deref.ensures.value c.in-Err.ensures.gap in
    with_nothing row c.args.place c.in-Err.field-0 gap
