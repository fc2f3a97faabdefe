use Rattle.std.proofs.Common.{◌≡◌, ◌∙◌, ◌*◌, ◌*ℤ◌, ◌<◌, negsuc, length, nat_abs, arith, ap, refl, subst, sym, FitsSigned, rules}
use Rattle.std.specs.Int.{w64, w128}
use Rattle.std.proofs.lemmas.Int.{to_z-of_z}
use Rattle.std.proofs.lemmas.List.{take_all}
use Rattle.fd_derived.specs.Rows.{row_at, entries_of}
use Rattle.fd_derived.specs.Sums.{HasRoom, IsCombined, size_of}
use Rattle.fd_derived.proofs.Adding.{combined_more, room_for_row}
use Rattle.fd_derived.proofs.DefectSums.{negated_size}
use Rattle.fd_derived.proofs.Fronts.{in_row, place_low}
use Rattle.fd_derived.proofs.defects.take_rows.Goals as goal

pub loop-entry-preserved : goal.loop-entry-preserved
loop-entry-preserved c =
    let k = c.loop-entry.entry-index in
    let row = c.args.row.now in
    let e = in_row row k in
    let p_in : e.place < length c.args.rows.now = place_low (length c.args.rows.now) row k c.loop-entry-test.true c.requires.placed in
    let fu : FitsSigned w64 e.units = search rules in
    let fn : FitsSigned w128 c.negated.result = search rules in
    let fact = c.negated.ensures ∙ ap (λ x. negsuc 0 *ℤ x) (to_z-of_z w64 e.units fu) in
    let is = sym c.left-terms.ensures in
    let one = simp to_z-of_z at c.in_ok-add.ensures.added in
    record {
      combined = combined_more c.args.sums.now c.loop-entry.sums c.add.new.sums row (λ k. (row_at c.args.rows.now k).left) (negsuc 0) c.negated.result k (entries_of c.left-terms.result.now)
          c.loop-entry-test.true c.loop-entry.invariant.combined is fact refl one;
      supported = c.in_ok-add.ensures.supported;
      inside = c.in_ok-add.ensures.inside;
    }

pub add-requires-clause-room : goal.add-requires-clause-room
add-requires-clause-room c =
    let k = c.loop-entry.entry-index in
    let row = c.args.row.now in
    let e = in_row row k in
    let p_in : e.place < length c.args.rows.now = place_low (length c.args.rows.now) row k c.loop-entry-test.true c.requires.placed in
    let fu : FitsSigned w64 e.units = search rules in
    let fn : FitsSigned w128 c.negated.result = search rules in
    let fact = c.negated.ensures ∙ ap (λ x. negsuc 0 *ℤ x) (to_z-of_z w64 e.units fu) in
    let is = sym c.left-terms.ensures in
    let room = room_for_row c.args.sums.now c.loop-entry.sums row (λ k. (row_at c.args.rows.now k).left) (negsuc 0) k c.loop-entry-test.true c.requires.room c.loop-entry.invariant.combined in
    let size : nat_abs c.negated.result ≡ nat_abs e.units = ap nat_abs fact ∙ negated_size e.units in
    simp to_z-of_z (subst (λ x. HasRoom c.loop-entry.sums (x * size_of (entries_of c.left-terms.result.now))) (sym size)
    (subst (λ its. HasRoom c.loop-entry.sums (nat_abs e.units * size_of its)) is room))

pub returns-clause-combined : goal.returns-clause-combined
returns-clause-combined c =
    let whole = take_all c.loop-entry.entry-index c.args.row.now (omega (arith, c.loop-entry.auto.entry-index-end, c.loop-entry-test.false)) in
    subst (λ row. IsCombined c.args.sums.now c.loop-entry.sums (entries_of row) (λ k. (row_at c.args.rows.now k).left) (negsuc 0)) whole c.loop-entry.invariant.combined

pub left-terms-requires : goal.left-terms-requires
left-terms-requires c = place_low (length c.args.rows.now) c.args.row.now c.loop-entry.entry-index c.loop-entry-test.true c.requires.placed
