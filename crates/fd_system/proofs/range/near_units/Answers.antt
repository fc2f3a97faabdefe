use Rattle.std.proofs.Common.{◌≡◌, ◌∙◌, ◌*ℤ◌, ◌^◌, ℤ, pos, neg_ℤ, nat_abs, Option, Some, None, Bool, true, false, cond, ◌&&◌, int_le, arith}
use Rattle.std.specs.Int.{w128}
use Rattle.std.specs.Option.{IfSome, IfNone}
use Rattle.std.proofs.lemmas.Bool.{leb-true}
use Rattle.std.proofs.lemmas.Int.{to_z-of_z, ints}
use Rattle.fd_arith.specs.fd_exact.Rounding.{near_div}
use Rattle.fd_arith.specs.Limits.{bounded}
use Rattle.fd_system.specs.Contributions.{AreSmall}
use Rattle.fd_system.proofs.range.near_units.Goals as goal

some_by : (t : Bool) (o : Option ℤ) (z : ℤ) → o ≡ cond t (Some z) None → IfSome o (λ u. u ≡ z)
some_by true (Some u) z e = cc
some_by false (Some u) z e = absurd cc
some_by t None z e = tt

none_by : (t : Bool) (o : Option ℤ) (z : ℤ) → o ≡ cond t (Some z) None → (AreSmall z → t ≡ true)
    → IfNone o (AreSmall z → ⊥)
none_by t (Some u) z e h = tt
none_by true None z e h = absurd cc
none_by false None z e h = λ s. let f = h s in absurd cc

small-true : (z : ℤ) → AreSmall z → (int_le (neg_ℤ (pos (2 ^ 100))) z && int_le z (pos (2 ^ 100))) ≡ true
small-true z s = let size = leb-true (nat_abs z) (2 ^ 54) s in grind (arith, ints)

units_some : (o : Option ℤ) (z : ℤ) → o ≡ bounded z → IfSome o (λ u. u ≡ z)
units_some o z e = some_by _ o z e

units_none : (o : Option ℤ) (z : ℤ) → o ≡ bounded z → IfNone o (AreSmall z → ⊥)
units_none o z e = none_by _ o z e (small-true z)

pub returns : goal.returns
returns c =
    let n = to_z-of_z w128 c.args.num c.ranges.num in
    let d = to_z-of_z w128 c.args.den c.ranges.den in
    let e = c.near_at.ensures ∙ (λ i. bounded (near_div (n i *ℤ pos (2 ^ 40)) (nat_abs (d i)))) in
    let z = near_div (c.args.num *ℤ pos (2 ^ 40)) (nat_abs c.args.den) in
    record { some = units_some _ z e; none = units_none _ z e }
