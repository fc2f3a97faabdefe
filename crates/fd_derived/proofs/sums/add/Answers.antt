use Rattle.std.proofs.Common.{take, arith, subst, FitsSigned, rules}
use Rattle.std.specs.Int.{w64, w128}
use Rattle.std.proofs.lemmas.Int.{to_z-of_z}
use Rattle.std.proofs.lemmas.List.{take_all}
use Rattle.fd_derived.specs.Rows.{entries_of}
use Rattle.fd_derived.specs.Sums.{IsAdded}
use Rattle.fd_derived.proofs.Adding.{added_more, room_for}
use Rattle.fd_derived.proofs.Fronts.{in_row}
use Rattle.fd_derived.proofs.sums.add.Goals as goal

pub add_at-requires-clause-room : goal.add_at-requires-clause-room
add_at-requires-clause-room c =
    let k = c.loop-entry.entry-index in
    let row = c.args.row.now in
    let u = (in_row row k).units in
    let fu : FitsSigned w64 u = search rules in
    let ff : FitsSigned w128 c.args.factor = c.ranges.factor in
    let added = subst (IsAdded c.args.sums.now c.loop-entry.sums (entries_of (take k row))) (to_z-of_z w128 c.args.factor ff) c.loop-entry.invariant.added in
    simp to_z-of_z (room_for c.args.sums.now c.loop-entry.sums row c.args.factor k c.loop-entry-test.true c.requires.room added)

pub loop-entry-preserved : goal.loop-entry-preserved
loop-entry-preserved c =
    let k = c.loop-entry.entry-index in
    let row = c.args.row.now in
    let e = in_row row k in
    let fu : FitsSigned w64 e.units = search rules in
    let gf = to_z-of_z w128 c.args.factor c.ranges.factor in
    let ff : FitsSigned w128 c.args.factor = c.ranges.factor in
    let added = subst (IsAdded c.args.sums.now c.loop-entry.sums (entries_of (take k row))) gf c.loop-entry.invariant.added in
    let one = simp to_z-of_z at c.in_ok-add_at.ensures.added in
    rw gf (record {
      added = added_more c.args.sums.now c.loop-entry.sums c.add_at.new.sums row c.args.factor k c.loop-entry-test.true added one;
      supported = c.in_ok-add_at.ensures.supported;
      inside = c.in_ok-add_at.ensures.inside;
    })

pub returns-clause-added : goal.returns-clause-added
returns-clause-added c =
    let whole = take_all c.loop-entry.entry-index c.args.row.now (omega (arith, c.loop-entry.auto.entry-index-end, c.loop-entry-test.false)) in
    let gf = to_z-of_z w128 c.args.factor c.ranges.factor in
    subst (λ row. IsAdded c.args.sums.now c.loop-entry.sums (entries_of row) c.args.factor) whole
    (subst (IsAdded c.args.sums.now c.loop-entry.sums (entries_of (take c.loop-entry.entry-index c.args.row.now))) gf c.loop-entry.invariant.added)
