use Rattle.std.proofs.Common.{◌≡◌, ◌<◌, length, get_or, take, arith, sym, ◌∙◌, ap, FitsSigned, rules, ◌-ℤ◌, ◌*ℤ◌, ◌^◌}
use Rattle.std.specs.Int.{w64}
use Rattle.std.proofs.lemmas.Int.{to_z-of_z}
use Rattle.std.proofs.lemmas.List.{take_all}
use Rattle.fd_arith.specs.fd_exact.States.{part}
use Rattle.fd_arith.specs.fd_exact.Rounding.{near_div}
use Rattle.fd_inverse.specs.Numbers.{in_range, reduced}
use Rattle.fd_inverse.proofs.Places.{not_yet, one_more, within_more, within_stop, within_all}
use Rattle.fd_inverse.proofs.InverseRows.{holds}
use Rattle.fd_inverse.proofs.rows.reduce_long.Goals as goal

pub returns-then-not-lose-clause-within : goal.returns-then-not-lose-clause-within
returns-then-not-lose-clause-within c =
    let i = c.loop-place.place-index in
    let place = get_or c.args.places.now i 0 in
    let ff : FitsSigned w64 c.args.f = c.ranges.f in
    let fe : FitsSigned w64 (part c.loop-place.row place) = search rules in
    let fp : FitsSigned w64 (part c.args.pivot.now place) = search rules in
    let now = simp to_z-of_z at c.loop-place.invariant.now in
    let here = not_yet c.args.row.now c.args.pivot.now c.args.f c.args.places.now i c.loop-place-test.true
    (c.requires.once i c.loop-place-test.true) c.loop-place.row now in
    let e = simp to_z-of_z at c.lose.ensures.within in
    within_stop c.args.row.now c.args.pivot.now c.args.f c.args.places.now i c.loop-place-test.true
    (c.requires.once i c.loop-place-test.true) (length c.args.row.now) (c.requires.inside i c.loop-place-test.true)
    (ap (λ x. in_range (x -ℤ near_div (c.args.f *ℤ part c.args.pivot.now place) (2 ^ 40))) (sym here)
    ∙ sym e
    ∙ c.if-not-lose.true)

pub loop-place-preserved : goal.loop-place-preserved
loop-place-preserved c =
    let i = c.loop-place.place-index in
    let place = get_or c.args.places.now i 0 in
    let ff : FitsSigned w64 c.args.f = c.ranges.f in
    let fe : FitsSigned w64 (part c.loop-place.row place) = search rules in
    let fp : FitsSigned w64 (part c.args.pivot.now place) = search rules in
    let now = simp to_z-of_z at c.loop-place.invariant.now in
    let within = simp to_z-of_z at c.loop-place.invariant.within in
    let here = not_yet c.args.row.now c.args.pivot.now c.args.f c.args.places.now i c.loop-place-test.true
    (c.requires.once i c.loop-place-test.true) c.loop-place.row now in
    let e = simp to_z-of_z at c.lose.ensures.within in
    let left = simp to_z-of_z at (holds c.lose.result c.if-not-lose.false c.lose.ensures.left) in
    let same : reduced c.args.row.now c.args.pivot.now c.args.f place
    ≡ part c.loop-place.row place -ℤ near_div (c.args.f *ℤ part c.args.pivot.now place) (2 ^ 40) =
    ap (λ x. x -ℤ near_div (c.args.f *ℤ part c.args.pivot.now place) (2 ^ 40)) (sym here) in
    let inside : place < length c.loop-place.row = omega (arith, c.requires.inside i c.loop-place-test.true) in
    simp to_z-of_z (record {
      now = one_more c.args.row.now c.args.pivot.now c.args.f c.args.places.now i c.loop-place-test.true
          (c.requires.once i c.loop-place-test.true) c.loop-place.row now c.lose.new.e inside (left ∙ sym same);
      within = within_more c.args.row.now c.args.pivot.now c.args.f c.args.places.now i c.loop-place-test.true
          (c.requires.once i c.loop-place-test.true) within (ap in_range same ∙ sym e ∙ c.if-not-lose.false);
    })

pub returns-clause-within : goal.returns-clause-within
returns-clause-within c =
    let ff : FitsSigned w64 c.args.f = c.ranges.f in
    let within = simp to_z-of_z at c.loop-place.invariant.within in
    let all : take c.loop-place.place-index c.args.places.now ≡ c.args.places.now =
    take_all c.loop-place.place-index c.args.places.now c.loop-place-test.false in
    within_all c.args.row.now c.args.pivot.now c.args.f c.args.places.now c.requires.entries (rw all at within)
