-- Products of the numbers of elements: their sizes, and the code's own.
use Rattle.std.proofs.Common.{◌≡◌, ◌∙◌, ℕ, ◌+◌, ◌*◌, ◌/◌, ◌<◌, ◌≤◌, ◌^◌, ℤ, pos, negsuc, neg_ℤ, ◌*ℤ◌, ◌≤ℤ◌, nat_abs, FitsSigned, to_z, of_z, arith, ap, lit<, refl, sym, subst}
use Rattle.std.specs.Int.{w128}
use Rattle.std.proofs.lemmas.Int.{ints, to_z-of_z, fits_signed_from_abs}
use Rattle.std.proofs.Math.Nat.{mul-le-mul}
use Rattle.dss_model.specs.fd_exact.Nearest.{near_most, near_least, near_within}
use Rattle.dss_model.specs.fd_exact.ReadBack.{read_back, product_fits as read_fits, product_is as read_is, product_most as read_most, product_room as read_room}
use Rattle.dss_model.specs.fd_exact.RootThree.{root_three}
use Rattle.dss_model.specs.fd_exact.Rounding.{near_div}
use Rattle.dss_model.specs.fd_exact.Ranges.{IsBetween, UpTo}

pub product_most : (a b : ℤ) → UpTo (2 * 10 ^ 9) a → UpTo (10 ^ 12) b → (a *ℤ b) ≤ℤ pos (2 * 10 ^ 12 * 10 ^ 9)
product_most (pos m) (pos n) u v =
    let high : m ≤ 2 * 10 ^ 9 = omega (arith, ints, u.most) in
    let most : n ≤ 10 ^ 12 = omega (arith, ints, v.most) in
    let product : m * n ≤ 2 * 10 ^ 9 * 10 ^ 12 = mul-le-mul high most in
    omega (arith, ints, product)
product_most (pos m) (negsuc n) u v = absurd (omega (arith, ints, v.least))
product_most (negsuc m) b u v = absurd (omega (arith, ints, u.least))

-- ---- sizes

-- a number from -n to n, or from 0 to n, is at most n in size
pub size_most : (n : ℕ) (z : ℤ) → IsBetween (neg_ℤ (pos n)) (pos n) z → nat_abs z ≤ n
size_most n z h = omega (arith, ints, h.least, h.most)

pub size_up_to : (n : ℕ) (z : ℤ) → UpTo n z → nat_abs z ≤ n
size_up_to n z h = omega (arith, ints, h.least, h.most)

pub natural_sign : (n : ℕ) → pos 0 ≤ℤ pos n
natural_sign n = omega (arith, ints)

-- a product of numbers that are not negative is not
pub product_sign : (a b : ℤ) → pos 0 ≤ℤ a → pos 0 ≤ℤ b → pos 0 ≤ℤ (a *ℤ b)
product_sign (pos m) (pos n) u v = natural_sign (m * n)
product_sign (pos m) (negsuc n) u v = absurd (omega (arith, ints, v))
product_sign (negsuc m) b u v = absurd (omega (arith, ints, u))

-- ---- a number over a divisor, to the nearest

pub near_sign : (z : ℤ) (d : ℕ) → pos 0 ≤ℤ z → pos 0 ≤ℤ near_div z d
near_sign (pos a) d h = natural_sign ((2 * a + d) / (2 * d))
near_sign (negsuc a) d h = absurd (omega (arith, ints, h))

pub near_above : (z : ℤ) (d q : ℕ) → 0 < d → pos 0 ≤ℤ z → z ≤ℤ pos (q * d) → near_div z d ≤ℤ pos q
near_above (pos a) d q p h k =
    let n : (2 * a + d) / (2 * d) ≤ q = near_most a d q p (omega (arith, ints, k)) in
    omega (arith, ints, n)
near_above (negsuc a) d q p h k = absurd (omega (arith, ints, h))

pub near_below : (z : ℤ) (d q : ℕ) → 0 < d → pos 0 ≤ℤ z → pos (q * d) ≤ℤ z → pos q ≤ℤ near_div z d
near_below (pos a) d q p h k =
    let n : q ≤ (2 * a + d) / (2 * d) = near_least a d q p (omega (arith, ints, k)) in
    omega (arith, ints, n)
near_below (negsuc a) d q p h k = absurd (omega (arith, ints, h))

-- the quotient that the code has of the code's own product c
module _ (c z r : ℤ) (d n : ℕ) (positive : 0 < d) (same : c ≡ z) (most : nat_abs z ≤ n * d) (room : n < 2 ^ 127)
    (e : r ≡ near_div c d) where
  is : r ≡ near_div z d
  is = e ∙ ap (λ t. near_div t d) same

  pub quotient_most : nat_abs r ≤ n
  quotient_most = subst (λ t. nat_abs t ≤ n) (sym is) (near_within z d n positive most)

  pub quotient_is : to_z w128 (of_z w128 r) ≡ near_div z d
  quotient_is = read_back r n quotient_most room ∙ is

  pub quotient_size : nat_abs (to_z w128 (of_z w128 r)) ≤ n
  quotient_size = subst (λ t. nat_abs t ≤ n) (sym (read_back r n quotient_most room)) quotient_most

-- ---- a part, in 10^-9, of a voltage

module _ (part volts : ℤ) (fp : FitsSigned w128 part) (fv : FitsSigned w128 volts)
    (u : UpTo (2 * 10 ^ 9) part) (v : UpTo (10 ^ 12) volts) where
  pub part_fits : FitsSigned w128 (to_z w128 (of_z w128 part) *ℤ to_z w128 (of_z w128 volts))
  part_fits =
      read_fits part volts (2 * 10 ^ 9) (10 ^ 12) (to_z-of_z w128 part fp) (to_z-of_z w128 volts fv)
      (size_up_to _ part u) (size_up_to _ volts v) (lit< tt)

  pub part_is : to_z w128 (of_z w128 (to_z w128 (of_z w128 part) *ℤ to_z w128 (of_z w128 volts))) ≡ (part *ℤ volts)
  part_is =
      read_is part volts (2 * 10 ^ 9) (10 ^ 12) (to_z-of_z w128 part fp) (to_z-of_z w128 volts fv)
      (size_up_to _ part u) (size_up_to _ volts v) (lit< tt)

  pub part_size : nat_abs (part *ℤ volts) ≤ 2 * 10 ^ 9 * 10 ^ 12
  part_size =
      read_most part volts (2 * 10 ^ 9) (10 ^ 12) (to_z-of_z w128 part fp) (to_z-of_z w128 volts fv)
      (size_up_to _ part u) (size_up_to _ volts v) (lit< tt)

  pub part_sign : pos 0 ≤ℤ (part *ℤ volts)
  part_sign = product_sign part volts u.least v.least

  pub part_within : UpTo (2 * 10 ^ 9 * 10 ^ 12) (part *ℤ volts)
  part_within = record { least = part_sign; most = omega (arith, ints, part_size) }

  pub part_room : nat_abs (to_z w128 (of_z w128 (to_z w128 (of_z w128 part) *ℤ to_z w128 (of_z w128 volts)))) ≤ 2 ^ 126
  part_room = subst (λ z. nat_abs z ≤ 2 ^ 126) (sym part_is) (omega (arith, part_size))

  module _ (r : ℤ)
      (e : r ≡ near_div (to_z w128 (of_z w128 (to_z w128 (of_z w128 part) *ℤ to_z w128 (of_z w128 volts)))) (10 ^ 9)) where
    pub volts_is : to_z w128 (of_z w128 r) ≡ near_div (part *ℤ volts) (10 ^ 9)
    volts_is = quotient_is _ (part *ℤ volts) r (10 ^ 9) (2 * 10 ^ 12) (lit< tt) part_is
        (omega (arith, part_size)) (lit< tt) e

    pub volts_sign : pos 0 ≤ℤ to_z w128 (of_z w128 r)
    volts_sign = subst (λ t. pos 0 ≤ℤ t) (sym volts_is) (near_sign (part *ℤ volts) (10 ^ 9) part_sign)

    pub volts_above : (q : ℕ) → (part *ℤ volts) ≤ℤ pos (q * 10 ^ 9) → to_z w128 (of_z w128 r) ≤ℤ pos q
    volts_above q h =
        subst (λ t. t ≤ℤ pos q) (sym volts_is) (near_above (part *ℤ volts) (10 ^ 9) q (lit< tt) part_sign h)

    pub volts_below : (q : ℕ) → pos (q * 10 ^ 9) ≤ℤ (part *ℤ volts) → pos q ≤ℤ to_z w128 (of_z w128 r)
    volts_below q h =
        subst (λ t. pos q ≤ℤ t) (sym volts_is) (near_below (part *ℤ volts) (10 ^ 9) q (lit< tt) part_sign h)

-- ---- the same of a voltage between phases, as that of a phase

module _ (p part volts r : ℤ) (fp : FitsSigned w128 part) (fv : FitsSigned w128 volts)
    (e : p ≡ (to_z w128 (of_z w128 part) *ℤ to_z w128 (of_z w128 volts))) (w : UpTo (2 * 10 ^ 9 * 10 ^ 12) p) where
  size : nat_abs p ≤ 2 * 10 ^ 9 * 10 ^ 12
  size = size_up_to _ p w

  product_fits : FitsSigned w128 p
  product_fits = fits_signed_from_abs w128 p (omega (arith, size))

  product_is : p ≡ (part *ℤ volts)
  product_is = e ∙ (λ i. to_z-of_z w128 part fp i *ℤ to_z-of_z w128 volts fv i)

  pub scaled_fits : FitsSigned w128 (to_z w128 (of_z w128 p) *ℤ pos (10 ^ 6))
  scaled_fits =
      read_fits p (pos (10 ^ 6)) (2 * 10 ^ 9 * 10 ^ 12) (10 ^ 6) (to_z-of_z w128 p product_fits) refl size (lit< tt) (lit< tt)

  pub scaled_room : nat_abs (to_z w128 (of_z w128 (to_z w128 (of_z w128 p) *ℤ pos (10 ^ 6)))) ≤ 2 ^ 126
  scaled_room =
      let h = read_room p (pos (10 ^ 6)) (2 * 10 ^ 9 * 10 ^ 12) (10 ^ 6) (to_z-of_z w128 p product_fits) refl size
      (lit< tt) (lit< tt) in
      omega (arith, h)

  scaled_is : to_z w128 (of_z w128 (to_z w128 (of_z w128 p) *ℤ pos (10 ^ 6))) ≡ ((part *ℤ volts) *ℤ pos (10 ^ 6))
  scaled_is =
      read_is p (pos (10 ^ 6)) (2 * 10 ^ 9 * 10 ^ 12) (10 ^ 6) (to_z-of_z w128 p product_fits) refl size (lit< tt) (lit< tt)
      ∙ ap (λ t. t *ℤ pos (10 ^ 6)) product_is

  scaled_size : nat_abs ((part *ℤ volts) *ℤ pos (10 ^ 6)) ≤ 2 * 10 ^ 9 * 10 ^ 12 * 10 ^ 6
  scaled_size = subst (λ t. nat_abs (t *ℤ pos (10 ^ 6)) ≤ 2 * 10 ^ 9 * 10 ^ 12 * 10 ^ 6) product_is
      (read_most p (pos (10 ^ 6)) (2 * 10 ^ 9 * 10 ^ 12) (10 ^ 6) (to_z-of_z w128 p product_fits) refl size (lit< tt) (lit< tt))

  module _ (h : r ≡ near_div (to_z w128 (of_z w128 (to_z w128 (of_z w128 p) *ℤ pos (10 ^ 6)))) root_three) where
    pub phase_is : to_z w128 (of_z w128 r) ≡ near_div ((part *ℤ volts) *ℤ pos (10 ^ 6)) root_three
    phase_is = quotient_is _ _ r root_three (2 * 10 ^ 12) (lit< tt) scaled_is (omega (arith, scaled_size)) (lit< tt) h

    phase_size : nat_abs (near_div ((part *ℤ volts) *ℤ pos (10 ^ 6)) root_three) ≤ 2 * 10 ^ 12
    phase_size =
        near_within ((part *ℤ volts) *ℤ pos (10 ^ 6)) root_three (2 * 10 ^ 12) (lit< tt) (omega (arith, scaled_size))

    phase_sign : pos 0 ≤ℤ near_div ((part *ℤ volts) *ℤ pos (10 ^ 6)) root_three
    phase_sign = near_sign ((part *ℤ volts) *ℤ pos (10 ^ 6)) root_three
        (product_sign (part *ℤ volts) (pos (10 ^ 6)) (subst (λ t. pos 0 ≤ℤ t) product_is w.least)
        (natural_sign (10 ^ 6)))

    pub phase_within : UpTo (2 * 10 ^ 12) (to_z w128 (of_z w128 r))
    phase_within = subst (UpTo (2 * 10 ^ 12)) (sym phase_is)
        (record { least = phase_sign; most = omega (arith, ints, phase_size) })
