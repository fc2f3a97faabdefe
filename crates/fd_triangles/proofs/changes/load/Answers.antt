use Rattle.std.proofs.Common.{◌≡◌, ◌∙◌, ◌≤◌, ◌<◌, ◌^◌, ◌+ℤ◌, nat_abs, [], length, ap, sym, subst, FitsSigned, rules}
use Rattle.std.specs.Int.{w64}
use Rattle.std.proofs.lemmas.Int.{to_z-of_z}
use Rattle.fd_triangles.specs.Rows.{IsRow, WithNumber, entry_at, number}
use Rattle.fd_triangles.proofs.Losing.{load_small, loaded_more, place_low}
use Rattle.fd_triangles.proofs.Noted.{noted_on}
use Rattle.fd_triangles.proofs.Sizes.{narrow}
use Rattle.fd_triangles.proofs.changes.load.Goals as goal

pub overflow_add-units : goal.overflow_add-units
overflow_add-units c =
    let k = c.loop-entry.entry-index in
    let coefficients = c.args.coefficients.now in
    let row = c.loop-entry.row.items in
    let e = entry_at coefficients k in
    let fu : FitsSigned w64 e.units = search rules in
    let fn : FitsSigned w64 c.number_at.result = search rules in
    let number_is : c.number_at.result ≡ number row e.place =
    c.number_at.ensures ∙ ap (λ l. number l e.place) c.deref.ensures.value in
    let small = load_small row coefficients k c.loop-entry-test.true c.loop-entry.invariant.numbers c.requires.small in
    let fits : nat_abs (c.number_at.result +ℤ e.units) ≤ 2 ^ 62 =
    subst (λ z. nat_abs (z +ℤ e.units) ≤ 2 ^ 62) (sym number_is) small in
    simp to_z-of_z (narrow (c.number_at.result +ℤ e.units) fits)

pub loop-entry-preserved : goal.loop-entry-preserved
loop-entry-preserved c =
    let k = c.loop-entry.entry-index in
    let coefficients = c.args.coefficients.now in
    let row = c.loop-entry.row.items in
    let e = entry_at coefficients k in
    let fu : FitsSigned w64 e.units = search rules in
    let fn : FitsSigned w64 c.number_at.result = search rules in
    let number_is : c.number_at.result ≡ number row e.place =
    c.number_at.ensures ∙ ap (λ l. number l e.place) c.deref.ensures.value in
    let small = load_small row coefficients k c.loop-entry-test.true c.loop-entry.invariant.numbers c.requires.small in
    let fits : nat_abs (c.number_at.result +ℤ e.units) ≤ 2 ^ 62 =
    subst (λ z. nat_abs (z +ℤ e.units) ≤ 2 ^ 62) (sym number_is) small in
    let fs : FitsSigned w64 (c.number_at.result +ℤ e.units) = narrow (c.number_at.result +ℤ e.units) fits in
    let w : WithNumber row c.write.new.row.items e.place (c.number_at.result +ℤ e.units) =
    simp to_z-of_z at c.in_ok-write.ensures.numbers in
    record {
      row = subst (λ n. IsRow n c.write.new.row.items) c.loop-entry.auto.columns c.in_ok-write.ensures.row;
      numbers = loaded_more row c.write.new.row.items coefficients k (c.number_at.result +ℤ e.units) c.loop-entry-test.true
          c.loop-entry.invariant.numbers (ap (λ z. z +ℤ e.units) number_is) w;
      noted = noted_on c.args.columns.now c.loop-entry.columns c.write.new.columns [] row c.write.new.row.items c.args.index
          c.loop-entry.invariant.noted c.in_ok-write.ensures.noted;
    }

pub write-requires-clause-place : goal.write-requires-clause-place
write-requires-clause-place c =
    let k = c.loop-entry.entry-index in
    let low = place_low (length c.args.columns.now) c.args.coefficients.now k c.loop-entry-test.true c.requires.placed in
    subst (λ n. (entry_at c.args.coefficients.now k).place < n) (sym c.loop-entry.auto.columns) low

pub write-requires-clause-small : goal.write-requires-clause-small
write-requires-clause-small c =
    let k = c.loop-entry.entry-index in
    let coefficients = c.args.coefficients.now in
    let row = c.loop-entry.row.items in
    let e = entry_at coefficients k in
    let fu : FitsSigned w64 e.units = search rules in
    let fn : FitsSigned w64 c.number_at.result = search rules in
    let number_is : c.number_at.result ≡ number row e.place =
    c.number_at.ensures ∙ ap (λ l. number l e.place) c.deref.ensures.value in
    let small = load_small row coefficients k c.loop-entry-test.true c.loop-entry.invariant.numbers c.requires.small in
    let fits : nat_abs (c.number_at.result +ℤ e.units) ≤ 2 ^ 62 =
    subst (λ z. nat_abs (z +ℤ e.units) ≤ 2 ^ 62) (sym number_is) small in
    let fs : FitsSigned w64 (c.number_at.result +ℤ e.units) = narrow (c.number_at.result +ℤ e.units) fits in
    simp to_z-of_z fits
