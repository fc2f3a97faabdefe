use Rattle.std.proofs.Common.{◌*◌, ◌<◌, pos, length, nat_abs, arith, refl, subst, sym, FitsSigned, rules}
use Rattle.std.specs.Int.{w64, w128}
use Rattle.std.proofs.Math.Facts.{sfits_widen}
use Rattle.std.proofs.lemmas.Int.{to_z-of_z}
use Rattle.std.proofs.lemmas.List.{take_all}
use Rattle.fd_derived.specs.Rows.{coefficients_at, entries_of}
use Rattle.fd_derived.specs.Sums.{HasRoom, IsCombined, size_of}
use Rattle.fd_derived.proofs.Adding.{combined_more, room_for_row}
use Rattle.fd_derived.proofs.DefectSums.{one_times}
use Rattle.fd_derived.proofs.Fronts.{in_row, place_low}
use Rattle.fd_derived.proofs.defects.add_equations.Goals as goal

pub loop-entry-preserved : goal.loop-entry-preserved
loop-entry-preserved c =
    let k = c.loop-entry.entry-index in
    let row = c.args.row.now in
    let e = in_row row k in
    let p_in : e.place < length c.args.equations.now = place_low (length c.args.equations.now) row k c.loop-entry-test.true c.requires.placed in
    let fu : FitsSigned w64 e.units = search rules in
    let fw : FitsSigned w128 e.units = sfits_widen tt fu in
    let is = sym c.coefficients-terms.ensures in
    let one = simp to_z-of_z at c.in_ok-add.ensures.added in
    record {
      combined = combined_more c.args.sums.now c.loop-entry.sums c.add.new.sums row (coefficients_at c.args.equations.now) (pos 1) e.units k (entries_of c.coefficients-terms.result.now)
          c.loop-entry-test.true c.loop-entry.invariant.combined is (one_times e.units) refl one;
      supported = c.in_ok-add.ensures.supported;
      inside = c.in_ok-add.ensures.inside;
    }

pub add-requires-clause-room : goal.add-requires-clause-room
add-requires-clause-room c =
    let k = c.loop-entry.entry-index in
    let row = c.args.row.now in
    let e = in_row row k in
    let p_in : e.place < length c.args.equations.now = place_low (length c.args.equations.now) row k c.loop-entry-test.true c.requires.placed in
    let fu : FitsSigned w64 e.units = search rules in
    let fw : FitsSigned w128 e.units = sfits_widen tt fu in
    let is = sym c.coefficients-terms.ensures in
    let room = room_for_row c.args.sums.now c.loop-entry.sums row (coefficients_at c.args.equations.now) (pos 1) k c.loop-entry-test.true c.requires.room c.loop-entry.invariant.combined in
    simp to_z-of_z (subst (λ its. HasRoom c.loop-entry.sums (nat_abs e.units * size_of its)) is room)

pub returns-clause-combined : goal.returns-clause-combined
returns-clause-combined c =
    let whole = take_all c.loop-entry.entry-index c.args.row.now (omega (arith, c.loop-entry.auto.entry-index-end, c.loop-entry-test.false)) in
    subst (λ row. IsCombined c.args.sums.now c.loop-entry.sums (entries_of row) (coefficients_at c.args.equations.now) (pos 1)) whole c.loop-entry.invariant.combined

pub coefficients-terms-requires : goal.coefficients-terms-requires
coefficients-terms-requires c = place_low (length c.args.equations.now) c.args.row.now c.loop-entry.entry-index c.loop-entry-test.true c.requires.placed
