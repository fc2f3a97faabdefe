-- The current is that of the system's part load, and its denominator is positive.
use Rattle.std.proofs.Common.{◌≡◌, ◌∙◌, ℕ, ◌*◌, ◌<◌, ◌^◌, ℤ, pos, neg_ℤ, ◌+ℤ◌, ◌-ℤ◌, ◌*ℤ◌, nat_abs, arith}
use Rattle.std.proofs.lemmas.Int.{ints}
use Rattle.std.proofs.Math.Nat.{mul-pos}
use Rattle.fd_system.specs.fd_exact.Integers.{as_val, vals, val-same}
use Rattle.fd_system.specs.fd_exact.Fractions.{fraction}
use Rattle.fd_system.specs.fd_arith.declared.terms.LoadModel.{LoadModel}
use Rattle.fd_system.specs.fd_arith.declared.terms.LoadModel.TheVariants.{ConstantPower, ConstantImpedance, ConstantCurrent}
use Rattle.fd_system.specs.fd_arith.LoadModels.{by_model}
use Rattle.fd_system.specs.declared.loads.LoadPhase.{LoadPhase}
use Rattle.fd_system.specs.Loads.{re_of, im_of, magnitude_of, clamp, non_negative, square_of, drawn}
use Rattle.fd_system.specs.Residual.{whole_state}
use Rattle.fd_load.specs.Current.{CurrentLaw, MagnitudeLaw, IsLoadPhase, divisor, excess, in_phase, quadrature}

pub phase_top : (k : ℕ) (a b p q : ℤ) → (pos k *ℤ a *ℤ p +ℤ pos k *ℤ b *ℤ q) ≡ pos k *ℤ (a *ℤ p +ℤ b *ℤ q)
phase_top k a b p q = rw (as_val a, as_val b, as_val p, as_val q) (simp vals (val-same _ _ _ _ (omega arith)))

pub quadrature_top : (k : ℕ) (a b p q : ℤ) → (neg_ℤ (pos k *ℤ b) *ℤ p +ℤ pos k *ℤ a *ℤ q) ≡ pos k *ℤ (a *ℤ q -ℤ b *ℤ p)
quadrature_top k a b p q = rw (sub (a *ℤ q) (b *ℤ p), as_val a, as_val b, as_val p, as_val q) (simp vals (val-same _ _ _ _ (omega arith)))
  where
    sub : (x y : ℤ) → (x -ℤ y) ≡ x +ℤ neg_ℤ y
    sub x y = omega (arith, ints)

whole : (n : ℤ) → (n *ℤ pos 1) ≡ n
whole n = omega (arith, ints)

one : (n : ℕ) → n * 1 ≡ n
one n = omega arith

-- a fraction by the model, over a whole state
in_each : (model : LoadModel) (n z : ℤ) (u lo hi vn l h m : ℕ) → n ≡ z
    → by_model model (fraction (n *ℤ pos 1) (clamp u (lo * (1 * 1)) (hi * (1 * 1)))) (fraction n (vn * vn * 1)) (fraction n (vn * clamp m (l * 1) (h * 1)))
    ≡ fraction z (by_model model (clamp u lo hi) (vn * vn) (vn * clamp m l h))
in_each ConstantPower n z u lo hi vn l h m e = let f : (n *ℤ pos 1) ≡ z = whole n ∙ e in (λ i. fraction (f i) (clamp u (one lo i) (one hi i)))
in_each ConstantImpedance n z u lo hi vn l h m e = (λ i. fraction (e i) (one (vn * vn) i))
in_each ConstantCurrent n z u lo hi vn l h m e = (λ i. fraction (e i) (vn * clamp m (one l i) (one h i)))

drawn_in_phase : (w : LoadPhase) (p q m : ℤ)
    → drawn w (pos (10 ^ 9) *ℤ w.p) (pos (10 ^ 9) *ℤ w.q) p q m 1 ≡ fraction (in_phase w p q) (divisor w p q m)
drawn_in_phase w p q m = in_each w.model _ _ (square_of p q) _ _ (nat_abs w.vn) _ _ (non_negative m) (phase_top (10 ^ 9) w.p w.q p q)

drawn_in_quadrature : (w : LoadPhase) (p q m : ℤ)
    → drawn w (neg_ℤ (pos (10 ^ 9) *ℤ w.q)) (pos (10 ^ 9) *ℤ w.p) p q m 1 ≡ fraction (quadrature w p q) (divisor w p q m)
drawn_in_quadrature w p q m = in_each w.model _ _ (square_of p q) _ _ (nat_abs w.vn) _ _ (non_negative m) (quadrature_top (10 ^ 9) w.p w.q p q)

pub current_is : CurrentLaw
current_is u x =
    let s = whole_state x in
    let p = re_of s u.first -ℤ re_of s u.second in
    let q = im_of s u.first -ℤ im_of s u.second in
    let m = magnitude_of s u.magnitude in
    let f = drawn_in_phase u.load p q m in
    let g = drawn_in_quadrature u.load p q m in
    (λ i. record { re = f i; im = g i })

pub magnitude_is : MagnitudeLaw
magnitude_is w p q m = (λ i. fraction (excess p q m) (one (nat_abs w.vn) i))

-- ---- the denominator is positive

one_positive : (model : LoadModel) (a b c : ℕ) → 0 < a → 0 < b → 0 < c → 0 < by_model model a b c
one_positive ConstantPower a b c h k l = h
one_positive ConstantImpedance a b c h k l = k
one_positive ConstantCurrent a b c h k l = l

clamp_positive : (u lo hi : ℕ) → 0 < lo → 0 < hi → 0 < clamp u lo hi
clamp_positive u lo hi h k = omega arith

pub divisor-positive : (w : LoadPhase) (p q m : ℤ) → IsLoadPhase w → 0 < divisor w p q m
divisor-positive w p q m h =
    let lo : 0 < nat_abs w.vlo = omega (arith, ints, h.low_least) in
    let vn : 0 < nat_abs w.vn = omega (arith, ints, h.nominal_least) in
    let hi : 0 < nat_abs w.vhi = omega (arith, ints, h.nominal_least, h.high_least) in
    one_positive w.model _ _ _
    (clamp_positive (square_of p q) (nat_abs w.vlo * nat_abs w.vlo) (nat_abs w.vhi * nat_abs w.vhi) (mul-pos lo lo) (mul-pos hi hi))
    (mul-pos vn vn)
    (mul-pos vn (clamp_positive (non_negative m) (nat_abs w.vlo) (nat_abs w.vhi) lo hi))
