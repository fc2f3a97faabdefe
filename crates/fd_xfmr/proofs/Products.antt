-- Products of the numbers of a transformer: their sizes, and the code's own.
use Rattle.std.proofs.Common.{◌≡◌, ◌∙◌, ℕ, ◌*◌, ◌<◌, ◌≤◌, ◌^◌, ℤ, pos, negsuc, ◌*ℤ◌, ◌<ℤ◌, ◌≤ℤ◌, nat_abs, FitsSigned, to_z, of_z, arith, subst, sym, ◌⊎◌, ⊎_elim}
use Rattle.std.specs.Int.{w128}
use Rattle.std.proofs.Math.Nat.{mul-le-mul, mul-pos}
use Rattle.std.proofs.lemmas.Int.{ints, to_z-of_z, unsigned_abs-mul}
use Rattle.fd_system.specs.fd_arith.declared.terms.TapPair.{TapPair}
use Rattle.fd_xfmr.specs.declared.data.XfmrData.{XfmrData}
use Rattle.fd_xfmr.specs.declared.leakage.Coefficients.{Coefficients}
use Rattle.fd_system.specs.fd_exact.Ranges.{Between}
use Rattle.fd_xfmr.specs.Windings.{first_volts, second_volts}
use Rattle.fd_xfmr.specs.Leakage.{coefficients_of, nominal_reactance, nominal_resistance}

size_is : (n : ℤ) (m : ℕ) → nat_abs (n *ℤ pos m) ≡ nat_abs n * m
size_is n m = unsigned_abs-mul n (pos m)

pub times_most : (n : ℤ) (m a b : ℕ) → nat_abs n ≤ a → m ≤ b → nat_abs (n *ℤ pos m) ≤ a * b
times_most n m a b h k = subst (λ t. t ≤ a * b) (sym (size_is n m)) (mul-le-mul h k)

fits_of : (z : ℤ) → nat_abs z ≤ 10 ^ 36 → FitsSigned w128 z
fits_of z h = omega (arith, ints)

-- the code's product, whose factors it reads as z and y
module _ (n z y : ℤ) (m : ℕ) (e : z ≡ n) (f : y ≡ pos m) (h : nat_abs n ≤ 10 ^ 25) (k : m ≤ 10 ^ 11) where
  most : nat_abs (n *ℤ pos m) ≤ 10 ^ 36
  most = times_most n m (10 ^ 25) (10 ^ 11) h k

  same : (z *ℤ y) ≡ (n *ℤ pos m)
  same = λ i. e i *ℤ f i

  pub code_fits : FitsSigned w128 (z *ℤ y)
  code_fits = subst (FitsSigned w128) (sym same) (fits_of (n *ℤ pos m) most)

  pub code_is : to_z w128 (of_z w128 (z *ℤ y)) ≡ (n *ℤ pos m)
  code_is = to_z-of_z w128 (z *ℤ y) code_fits ∙ same

  pub code_most : nat_abs (to_z w128 (of_z w128 (z *ℤ y))) ≤ 10 ^ 36
  code_most = subst (λ t. nat_abs t ≤ 10 ^ 36) (sym code_is) most

-- a natural in the code's signed type
pub shown : (m : ℕ) → m ≤ 10 ^ 11 → to_z w128 m ≡ pos m
shown m h = omega (arith, ints)

-- a product that is read from the code's type
pub read : (z : ℤ) → nat_abs z ≤ 10 ^ 36 → to_z w128 (of_z w128 z) ≡ z
read z h = to_z-of_z w128 z (fits_of z h)

pub product_is : (r z n : ℤ) (k m : ℕ) → r ≡ (z *ℤ pos k) → z ≡ n → k ≡ m → nat_abs r ≤ 10 ^ 36
    → to_z w128 (of_z w128 r) ≡ (n *ℤ pos m)
product_is r z n k m e f g h = read r h ∙ e ∙ (λ i. f i *ℤ pos (g i))

-- ---- sizes

-- one or three phases
pub phases_few : (n : ℕ) → (n ≡ 1) ⊎ (n ≡ 3) → n ≤ 3
phases_few n h = ⊎_elim (λ e. omega arith) (λ e. omega arith) h

pub percent_most : (n f : ℕ) → n ≤ 2 * 10 ^ 11 → f ≤ 3 * 10 ^ 24 → n * f ≤ 6 * 10 ^ 35
percent_most n f h k = let p : n * f ≤ 2 * 10 ^ 11 * (3 * 10 ^ 24) = mul-le-mul h k in omega arith

pub squares_most : (s p : ℕ) → s ≤ 10 ^ 24 → p ≤ 3 → s * p ≤ 3 * 10 ^ 24
squares_most s p h k = let q : s * p ≤ 10 ^ 24 * 3 = mul-le-mul h k in omega arith

-- a voltage times a tap
positive_by : (a t : ℕ) → 0 < a → 0 < t → pos 0 <ℤ (pos a *ℤ pos t)
positive_by a t h k = let p : 0 < a * t = mul-pos h k in omega (arith, ints)

pub over_positive : (v : ℤ) (t : ℕ) → Between 5773000 (10 ^ 12) v → 0 < t → pos 0 <ℤ (v *ℤ pos t)
over_positive (pos a) t w h = let l = w.least in positive_by a t (omega (arith, ints)) h
over_positive (negsuc a) t w h = let l = w.least in absurd (omega (arith, ints))

pub over_small : (v : ℤ) (t : ℕ) → Between 5773000 (10 ^ 12) v → t ≤ 200000 → (v *ℤ pos t) ≤ℤ pos (10 ^ 32)
over_small v t w h =
    let l = w.least in
    let m = w.most in
    let s : nat_abs v ≤ 10 ^ 12 = omega (arith, ints) in
    let p = times_most v t (10 ^ 12) 200000 s h in
    omega (arith, ints)

pub quotient_room : (n u : ℕ) → n ≤ 6 * 10 ^ 35 → 10 ^ 6 ≤ u → n ≤ 6 * 10 ^ 24 * (u * 100000)
quotient_room n u h k = omega arith

pub voltage_small : (v : ℤ) → Between 5773000 (10 ^ 12) v → nat_abs v ≤ 10 ^ 36
voltage_small v w = let l = w.least in let m = w.most in omega (arith, ints)

pub ohms_small : (z : ℤ) → nat_abs z ≤ 6 * 10 ^ 24 → nat_abs z ≤ 10 ^ 36
ohms_small z h = omega arith

-- ---- the numbers together

pub coefficients_same : (d : XfmrData) (t : TapPair) (ratio over r x : ℤ)
    → ratio ≡ (second_volts d *ℤ pos t.second) → over ≡ (first_volts d *ℤ pos t.first)
    → r ≡ (nominal_resistance d *ℤ pos (t.second * t.second)) → x ≡ (nominal_reactance d *ℤ pos (t.second * t.second))
    → ◌≡◌ {A = Coefficients} (record { ratio = ratio; ratio_over = over; r = r; x = x }) (coefficients_of d t)
coefficients_same d t ratio over r x p q s u = λ i. record { ratio = p i; ratio_over = q i; r = s i; x = u i }
