-- The size of a quotient with the sign of its dividend, as numbers of 128 bits.
use Rattle.std.proofs.Common.{◌≡◌, ◌∙◌, ◌+◌, ◌*◌, ◌/◌, ◌≤◌, ◌^◌, ℕ, ℤ, pos, negsuc, neg_ℤ, ◌-ℤ◌, ◌≤ℤ◌, nat_abs, FitsSigned, to_z, of_z, true, false, ap, arith, sym}
use lib.Signed.{lt_z}
use Rattle.std.specs.Int.{w128}
use Rattle.std.proofs.lemmas.Bool.{ltb-true}
use Rattle.std.proofs.lemmas.Int.{ints, to_z-of_z}
use Rattle.fd_exact.specs.ReadBack.{size_of_opposite}
use Rattle.fd_exact.specs.Rounding.{near_div}

-- no number is below 0 and at least 0
not_below : (n : ℤ) → lt_z n (pos 0) ≡ true → pos 0 ≤ℤ n → ⊥
not_below (pos m) h u = omega (arith, ltb-true m 0 h)
not_below (negsuc m) h u = omega (arith, ints)

of_negative : (n : ℤ) (a d size : ℕ) → a ≡ nat_abs n → size ≡ (2 * a + d) / (2 * d) → lt_z n (pos 0) ≡ true
    → neg_ℤ (pos size) ≡ near_div n d
of_negative (negsuc m) a d size e v h = ap (λ k. neg_ℤ (pos k)) (v ∙ ap (λ b. (2 * b + d) / (2 * d)) e)
of_negative (pos m) a d size e v h = absurd (omega (arith, ltb-true m 0 h))

of_positive : (n : ℤ) (a d size : ℕ) → a ≡ nat_abs n → size ≡ (2 * a + d) / (2 * d) → lt_z n (pos 0) ≡ false
    → pos size ≡ near_div n d
of_positive (pos m) a d size e v h = ap pos (v ∙ ap (λ b. (2 * b + d) / (2 * d)) e)
of_positive (negsuc m) a d size e v h = cc

-- a is the size of n, and size that of a quotient of n
module _ (n : ℤ) (a size : ℕ) (f : FitsSigned w128 n) (e : a ≡ nat_abs (to_z w128 (of_z w128 n)))
    (k : nat_abs n ≤ 2 ^ 126) where
  same : to_z w128 (of_z w128 n) ≡ n
  same = to_z-of_z w128 n f

  size_is : a ≡ nat_abs n
  size_is = e ∙ ap nat_abs same

  pub dividend_fits : a ≤ 2 ^ 126
  dividend_fits = rw size_is k

  module _ (h : size ≤ a) where
    pub signed : FitsSigned w128 (pos size)
    signed = omega (arith, ints, dividend_fits)

    held : to_z w128 size ≡ pos size
    held = to_z-of_z w128 (pos size) signed

    opposite : (pos 0 -ℤ to_z w128 size) ≡ neg_ℤ (pos size)
    opposite = ap (λ z. pos 0 -ℤ z) held ∙ omega (arith, ints)

    opposite_fits : FitsSigned w128 (neg_ℤ (pos size))
    opposite_fits = omega (arith, ints, dividend_fits)

    pub opposite_signed : FitsSigned w128 (pos 0 -ℤ to_z w128 size)
    opposite_signed = rw opposite opposite_fits

    opposite_held : to_z w128 (of_z w128 (pos 0 -ℤ to_z w128 size)) ≡ neg_ℤ (pos size)
    opposite_held = ap (λ z. to_z w128 (of_z w128 z)) opposite ∙ to_z-of_z w128 (neg_ℤ (pos size)) opposite_fits

    -- what a negative quotient is
    pub negative_value : (d : ℕ) → size ≡ (2 * a + d) / (2 * d) → lt_z (to_z w128 (of_z w128 n)) (pos 0) ≡ true
        → to_z w128 (of_z w128 (pos 0 -ℤ to_z w128 size)) ≡ near_div n d
    negative_value d v t =
        opposite_held ∙ of_negative n a d size size_is v (ap (λ z. lt_z z (pos 0)) (sym same) ∙ t)

    negative_size : nat_abs (to_z w128 (of_z w128 (pos 0 -ℤ to_z w128 size))) ≡ size
    negative_size = ap nat_abs opposite_held ∙ size_of_opposite size

    pub negative_most : (d : ℕ) → ((q : ℕ) → a ≤ q * d → size ≤ q) → (q : ℕ) → nat_abs n ≤ q * d
        → nat_abs (to_z w128 (of_z w128 (pos 0 -ℤ to_z w128 size))) ≤ q
    negative_most d most q u = rw negative_size (most q (rw size_is u))

    pub negative_least : (d : ℕ) → ((q : ℕ) → q * d ≤ a → q ≤ size) → (q : ℕ) → q * d ≤ nat_abs n
        → q ≤ nat_abs (to_z w128 (of_z w128 (pos 0 -ℤ to_z w128 size)))
    negative_least d least q u = rw negative_size (least q (rw size_is u))

    pub negative_sign : lt_z (to_z w128 (of_z w128 n)) (pos 0) ≡ true → pos 0 ≤ℤ n
        → pos 0 ≤ℤ to_z w128 (of_z w128 (pos 0 -ℤ to_z w128 size))
    negative_sign t u =
        let v : lt_z n (pos 0) ≡ true = ap (λ z. lt_z z (pos 0)) (sym same) ∙ t in
        absurd (not_below n v u)

    -- what any other quotient is
    pub positive_value : (d : ℕ) → size ≡ (2 * a + d) / (2 * d) → lt_z (to_z w128 (of_z w128 n)) (pos 0) ≡ false
        → to_z w128 size ≡ near_div n d
    positive_value d v t = held ∙ of_positive n a d size size_is v (ap (λ z. lt_z z (pos 0)) (sym same) ∙ t)

    pub positive_most : (d : ℕ) → ((q : ℕ) → a ≤ q * d → size ≤ q) → (q : ℕ) → nat_abs n ≤ q * d
        → nat_abs (to_z w128 size) ≤ q
    positive_most d most q u = rw held (most q (rw size_is u))

    pub positive_least : (d : ℕ) → ((q : ℕ) → q * d ≤ a → q ≤ size) → (q : ℕ) → q * d ≤ nat_abs n
        → q ≤ nat_abs (to_z w128 size)
    positive_least d least q u = rw held (least q (rw size_is u))

    pub positive_sign : pos 0 ≤ℤ to_z w128 size
    positive_sign = rw held (omega (arith, ints))
