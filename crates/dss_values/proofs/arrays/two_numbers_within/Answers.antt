use Rattle.std.proofs.Common.{◌≤ℤ◌, sym}
use Rattle.std.proofs.lemmas.Int.{to_z-of_z}
use Rattle.std.proofs.lemmas.Result.{IfOk-at_ok}
use Rattle.dss_values.proofs.Ranges.{two_above, two_below}
use Rattle.dss_values.proofs.arrays.two_numbers_within.Goals as goal

pub returns-clause-low : goal.returns-clause-low
returns-clause-low c =
    let low_fits = c.ranges.low in
    let high_fits = c.ranges.high in
    IfOk-at_ok (λ n. (c.args.low ≤ℤ n.0) × (c.args.low ≤ℤ n.1)) (sym c.in_ok-two_of.ensures)
    (rw c.deref.ensures.value (two_above c.args.low c.args.high c.in_ok-numbers.numbers.items (simp to_z-of_z at c.in_ok-numbers.ensures.within)))

pub returns-clause-high : goal.returns-clause-high
returns-clause-high c =
    let low_fits = c.ranges.low in
    let high_fits = c.ranges.high in
    IfOk-at_ok (λ n. (n.0 ≤ℤ c.args.high) × (n.1 ≤ℤ c.args.high)) (sym c.in_ok-two_of.ensures)
    (rw c.deref.ensures.value (two_below c.args.low c.args.high c.in_ok-numbers.numbers.items (simp to_z-of_z at c.in_ok-numbers.ensures.within)))
