use Rattle.std.proofs.Common.{◌≡◌, ◌∙◌, ◌≢◌, length, ap, refl, sym, subst, set, pos, ℤ, FitsSigned, to_z, of_z}
use Rattle.std.specs.Int.{w64}
use Rattle.std.proofs.lemmas.Int.{to_z-of_z}
use Rattle.fd_triangles.specs.Rows.{IsAt, IsGap, WithNumber, number}
use Rattle.fd_triangles.proofs.Entries.{choose_same, number_here, row_insert, row_remove, row_set, with_insert, with_nothing, with_remove, with_set}
use Rattle.fd_triangles.proofs.Noted.{place_noted, value_noted}
use Rattle.fd_triangles.proofs.row.write.Goals as goal

zero_is : (z : ℤ) → FitsSigned w64 z → of_z w64 z ≡ 0 → pos 0 ≡ z
zero_is z f e = sym (ap (to_z w64) e) ∙ to_z-of_z w64 z f

other_is : (z : ℤ) → (of_z w64 z ≡ 0 → ⊥) → z ≢ pos 0
other_is z ne e = ne (ap (of_z w64) e)

pub returns-in-Ok-clause-row : goal.returns-in-Ok-clause-row
returns-in-Ok-clause-row c =
    let row = c.args.row.now.items in
    let here : IsAt row c.args.place c.in-Ok.at =
    subst (λ l. IsAt l c.args.place c.in-Ok.at) c.deref.ensures.value c.in-Ok.ensures.found in
    rw c.remove.ensures.items (row_remove (length c.args.columns.now) row c.requires.row c.args.place c.in-Ok.at here)

pub returns-in-Ok-clause-numbers : goal.returns-in-Ok-clause-numbers
returns-in-Ok-clause-numbers c =
    let row = c.args.row.now.items in
    let here : IsAt row c.args.place c.in-Ok.at =
    subst (λ l. IsAt l c.args.place c.in-Ok.at) c.deref.ensures.value c.in-Ok.ensures.found in
    let su : FitsSigned w64 c.args.units = c.ranges.units in
    let z = zero_is c.args.units su c.if-units-eq0.true in
    subst (λ v. WithNumber row c.remove.new.self.items c.args.place v) z
    (subst (λ l. WithNumber row l c.args.place (pos 0)) (sym c.remove.ensures.items)
    (with_remove row c.requires.row.rising c.args.place c.in-Ok.at here))

pub returns-in-Ok-clause-noted : goal.returns-in-Ok-clause-noted
returns-in-Ok-clause-noted c =
    let row = c.args.row.now.items in
    let su : FitsSigned w64 c.args.units = c.ranges.units in
    let z = zero_is c.args.units su c.if-units-eq0.true in
    let w = returns-in-Ok-clause-numbers c in
    value_noted c.args.columns.now row c.remove.new.self.items c.args.place c.args.index c.args.units w
    (λ ne. absurd (ne (w c.args.place ∙ choose_same c.args.place c.args.place c.args.units (number row c.args.place) refl ∙ sym z)))

pub returns-in-Ok-2-clause-row : goal.returns-in-Ok-2-clause-row
returns-in-Ok-2-clause-row c =
    let row = c.args.row.now.items in
    let here : IsAt row c.args.place c.in-Ok.at =
    subst (λ l. IsAt l c.args.place c.in-Ok.at) c.deref.ensures.value c.in-Ok.ensures.found in
    let su : FitsSigned w64 c.args.units = c.ranges.units in
    rw (to_z-of_z w64 c.args.units su) (row_set (length c.args.columns.now) row c.requires.row c.args.place c.in-Ok.at here
    c.args.units (other_is c.args.units c.if-units-eq0.false) c.requires.small)

pub returns-in-Ok-2-clause-numbers : goal.returns-in-Ok-2-clause-numbers
returns-in-Ok-2-clause-numbers c =
    let row = c.args.row.now.items in
    let here : IsAt row c.args.place c.in-Ok.at =
    subst (λ l. IsAt l c.args.place c.in-Ok.at) c.deref.ensures.value c.in-Ok.ensures.found in
    let su : FitsSigned w64 c.args.units = c.ranges.units in
    rw (to_z-of_z w64 c.args.units su) (with_set row c.requires.row.rising c.args.place c.in-Ok.at here c.args.units)

pub returns-in-Ok-2-clause-noted : goal.returns-in-Ok-2-clause-noted
returns-in-Ok-2-clause-noted c =
    let row = c.args.row.now.items in
    let here : IsAt row c.args.place c.in-Ok.at =
    subst (λ l. IsAt l c.args.place c.in-Ok.at) c.deref.ensures.value c.in-Ok.ensures.found in
    let new = set row c.in-Ok.at (record { place = c.args.place; units = to_z w64 (of_z w64 c.args.units) }) in
    value_noted c.args.columns.now row new c.args.place c.args.index c.args.units (returns-in-Ok-2-clause-numbers c)
    (λ ne z. c.requires.row.other c.in-Ok.at here.in_range
    (sym (number_here row c.requires.row.rising c.args.place c.in-Ok.at here) ∙ z))

pub returns-in-Err-clause-numbers : goal.returns-in-Err-clause-numbers
returns-in-Err-clause-numbers c =
    let row = c.args.row.now.items in
    let gap : IsGap row c.args.place c.in-Err.field-0 =
    subst (λ l. IsGap l c.args.place c.in-Err.field-0) c.deref.ensures.value c.in-Err.ensures.gap in
    let su : FitsSigned w64 c.args.units = c.ranges.units in
    let z = zero_is c.args.units su c.if-units-eq0-2.true in
    subst (λ v. WithNumber row row c.args.place v) z (with_nothing row c.args.place c.in-Err.field-0 gap)

pub returns-in_ok-note-in-Err-2-clause-row : goal.returns-in_ok-note-in-Err-2-clause-row
returns-in_ok-note-in-Err-2-clause-row c =
    let row = c.args.row.now.items in
    let gap : IsGap row c.args.place c.in-Err.field-0 =
    subst (λ l. IsGap l c.args.place c.in-Err.field-0) c.deref.ensures.value c.in-Err.ensures.gap in
    let su : FitsSigned w64 c.args.units = c.ranges.units in
    rw (c.in_ok-insert-in-Err-2.ensures.items, to_z-of_z w64 c.args.units su)
    (row_insert row c.args.place c.in-Err.field-0 gap (length c.args.columns.now) c.args.units
    (other_is c.args.units c.if-units-eq0-2.false) c.requires.small c.requires.place c.requires.row)

pub returns-in_ok-note-in-Err-2-clause-numbers : goal.returns-in_ok-note-in-Err-2-clause-numbers
returns-in_ok-note-in-Err-2-clause-numbers c =
    let row = c.args.row.now.items in
    let gap : IsGap row c.args.place c.in-Err.field-0 =
    subst (λ l. IsGap l c.args.place c.in-Err.field-0) c.deref.ensures.value c.in-Err.ensures.gap in
    let su : FitsSigned w64 c.args.units = c.ranges.units in
    let items = simp to_z-of_z at c.in_ok-insert-in-Err-2.ensures.items in
    subst (λ l. WithNumber row l c.args.place c.args.units) (sym items)
    (with_insert row c.args.place c.in-Err.field-0 gap c.args.units)

pub returns-in_ok-note-in-Err-2-clause-noted : goal.returns-in_ok-note-in-Err-2-clause-noted
returns-in_ok-note-in-Err-2-clause-noted c =
    place_noted c.args.columns.now c.note.new.columns c.args.row.now.items c.insert.new.self.items c.args.place c.args.index
    c.args.units (returns-in_ok-note-in-Err-2-clause-numbers c) c.in_ok-note-in-Err-2.ensures
