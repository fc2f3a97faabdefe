-- The sizes of what a part load draws, to the nearest.
use Rattle.std.proofs.Common.{◌≡◌, ◌∙◌, ℕ, ◌*◌, ◌≤◌, ◌^◌, ℤ, pos, ◌+ℤ◌, ◌-ℤ◌, ◌*ℤ◌, nat_abs, cond, Option, Some, None, to_z, of_z, arith, ap}
use Rattle.std.specs.Int.{w128}
use Rattle.fd_load.specs.fd_arith.Limits.{within}
use Rattle.fd_load.specs.fd_arith.Capping.{true-fits}
use Rattle.std.proofs.lemmas.Int.{ints, unsigned_abs-mul, to_z-of_z, fits_signed_from_abs}
use Rattle.std.proofs.Math.Nat.{mul-le-mul, mul-le-mul_right}
use Rattle.fd_load.specs.fd_exact.Integers.{abs_sub}
use Rattle.fd_load.specs.fd_exact.Rounding.{near_div}
use Rattle.fd_load.specs.fd_arith.declared.terms.LoadModel.{LoadModel}
use Rattle.fd_load.specs.fd_arith.declared.terms.LoadModel.TheVariants.{ConstantPower, ConstantImpedance, ConstantCurrent}
use Rattle.fd_load.specs.fd_arith.LoadModels.{by_model}
use Rattle.fd_load.specs.fd_system.declared.loads.LoadPhase.{LoadPhase}
use Rattle.fd_load.specs.fd_system.Loads.{clamp, non_negative, square_of}
use Rattle.fd_load.specs.Current.{AreVoltages, IsLoadPhase, divisor, excess, in_phase, largest, power_sum, quadrature}
use Rattle.fd_load.specs.fd_exact.Nearest.{near_within}
use Rattle.fd_load.proofs.CallerLemmas.{current_most, divisor-positive, sum_most, times_most, turned, turned_largest}

-- a number that is not large is what an i128 keeps of it
pub kept_by : (z : ℤ) → nat_abs z ≤ 2 ^ 126 → to_z w128 (of_z w128 z) ≡ z
kept_by z h = to_z-of_z w128 z (fits_signed_from_abs w128 z (omega arith))

-- ---- the denominator is at least the square of the lower limit

one_least : (model : LoadModel) (l a b c : ℕ) → l ≤ a → l ≤ b → l ≤ c → l ≤ by_model model a b c
one_least ConstantPower l a b c h k j = h
one_least ConstantImpedance l a b c h k j = k
one_least ConstantCurrent l a b c h k j = j

clamp_least : (u lo hi : ℕ) → lo ≤ hi → lo ≤ clamp u lo hi
clamp_least u lo hi h = omega arith

divisor_least : (w : LoadPhase) (p q m : ℤ) → IsLoadPhase w → nat_abs w.vlo * nat_abs w.vlo ≤ divisor w p q m
divisor_least w p q m h =
    let low : nat_abs w.vlo ≤ nat_abs w.vn = omega (arith, ints, h.low_least, h.low_most) in
    let high : nat_abs w.vlo ≤ nat_abs w.vhi = omega (arith, ints, h.low_least, h.low_most, h.high_least) in
    one_least w.model (nat_abs w.vlo * nat_abs w.vlo) _ _ _
    (clamp_least (square_of p q) (nat_abs w.vlo * nat_abs w.vlo) (nat_abs w.vhi * nat_abs w.vhi) (mul-le-mul high high))
    (mul-le-mul low low)
    (mul-le-mul low (clamp_least (non_negative m) (nat_abs w.vlo) (nat_abs w.vhi) high))

-- ---- the current

current_within : (n g a l d : ℕ) → n ≤ 10 ^ 9 * (g * a) → g * 10 ^ 9 ≤ 2 ^ 12 * l → l ≤ d → a ≤ 2 ^ 41 → n ≤ 2 ^ 62 * d
current_within n g a l d h k j s =
    let m = current_most n g a l d h k j in
    let b : 2 ^ 32 * a ≤ 2 ^ 73 = omega arith in
    let e = mul-le-mul_right d b in
    omega arith

largest_small : (p q : ℤ) → nat_abs p ≤ 2 ^ 41 → nat_abs q ≤ 2 ^ 41 → largest p q ≤ 2 ^ 41
largest_small p q h k = omega arith

module _ (w : LoadPhase) (p q m : ℤ) (h : IsLoadPhase w) (v : AreVoltages p q m) where
  nearest_small : (n : ℤ) → nat_abs n ≤ 10 ^ 9 * (power_sum w * largest p q) → nat_abs (near_div n (divisor w p q m)) ≤ 2 ^ 62
  nearest_small n b =
      near_within n (divisor w p q m) (2 ^ 62) (divisor-positive w p q m h)
      (current_within (nat_abs n) (power_sum w) (largest p q) (nat_abs w.vlo * nat_abs w.vlo) (divisor w p q m) b
      h.admittance (divisor_least w p q m h) (largest_small p q v.re v.im))

  pub in_phase_small : nat_abs (near_div (in_phase w p q) (divisor w p q m)) ≤ 2 ^ 62
  in_phase_small = nearest_small (in_phase w p q) (times_most (10 ^ 9) (w.p *ℤ p +ℤ w.q *ℤ q) (power_sum w * largest p q) (sum_most w.p w.q p q))

  pub quadrature_small : nat_abs (near_div (quadrature w p q) (divisor w p q m)) ≤ 2 ^ 62
  quadrature_small =
      nearest_small (quadrature w p q) (rw (← turned (10 ^ 9) w.p w.q p q, ← turned_largest p q) (times_most (10 ^ 9)
      (w.p *ℤ q +ℤ w.q *ℤ (pos 0 -ℤ p)) (power_sum w * largest q (pos 0 -ℤ p)) (sum_most w.p w.q q (pos 0 -ℤ p))))

  square_most : (z : ℤ) → nat_abs z ≤ 2 ^ 41 → nat_abs (z *ℤ z) ≤ 2 ^ 41 * 2 ^ 41
  square_most z b = let g = mul-le-mul b b in rw (unsigned_abs-mul z z) g

  nominal_positive : 5 * 10 ^ 6 ≤ nat_abs w.vn
  nominal_positive = omega (arith, ints, h.nominal_least)

  excess_most : nat_abs (excess p q m) ≤ 2 ^ 62 * nat_abs w.vn
  excess_most = omega (
    arith,
    nominal_positive,
    abs_sub (m *ℤ m -ℤ p *ℤ p) (q *ℤ q),
    abs_sub (m *ℤ m) (p *ℤ p),
    square_most m v.magnitude,
    square_most p v.re,
    square_most q v.im,
  )

  pub excess_small : nat_abs (near_div (excess p q m) (nat_abs w.vn)) ≤ 2 ^ 62
  excess_small = near_within (excess p q m) (nat_abs w.vn) (2 ^ 62) (omega (arith, nominal_positive)) excess_most

-- ---- the units of a number within the limit

within_some : (z : ℤ) → nat_abs z ≤ 2 ^ 62 → within z ≡ Some z
unfolding within
within_some z h = ap (λ t. cond t (Some z) None) (true-fits z (omega (arith, ints), omega (arith, ints)))

pub kept_units : (o : Option ℤ) (z u : ℤ) → nat_abs z ≤ 2 ^ 62 → o ≡ within z → ((y : ℤ) → o ≡ Some y → u ≡ y) → to_z w128 (of_z w128 u) ≡ z
kept_units o z u h e f =
    let s = f z (e ∙ within_some z h) in
    kept_by u (rw s (omega arith)) ∙ s
