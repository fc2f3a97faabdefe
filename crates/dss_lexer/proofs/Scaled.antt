-- A number of 64 bits in units of 10^-9, with either sign, as numbers of 128 bits.
use Rattle.std.proofs.Common.{◌≡◌, ◌∙◌, ◌≤◌, ◌^◌, ℤ, pos, neg_ℤ, ◌-ℤ◌, ◌*ℤ◌, FitsSigned, to_z, of_z, ap, arith}
use Rattle.std.specs.Prelude.{int_lt}
use Rattle.std.specs.Int.{w64, w128}
use Rattle.std.specs.Int.RustNames.{unsigned_abs}
use Rattle.std.proofs.lemmas.Int.{ints, to_z-of_z}

-- the test of a number's sign, as the code has it
pub sign_is : (n : ℤ) → FitsSigned w64 n → int_lt (to_z w64 (of_z w64 n)) (pos 0) ≡ int_lt n (pos 0)
sign_is n f = ap (λ z. int_lt z (pos 0)) (to_z-of_z w64 n f)

module _ (n r : ℤ) (f : FitsSigned w64 n) (e : r ≡ to_z w64 (of_z w64 n)) where
  wide : FitsSigned w128 n
  wide = omega (arith, ints, f)

  same : to_z w128 (of_z w128 r) ≡ n
  same = ap (λ z. to_z w128 (of_z w128 z)) (e ∙ to_z-of_z w64 n f) ∙ to_z-of_z w128 n wide

  scaled : to_z w128 (of_z w128 r) *ℤ pos 1_000_000_000 ≡ n *ℤ pos 1_000_000_000
  scaled = ap (λ z. z *ℤ pos 1_000_000_000) same

  scaled_fits : FitsSigned w128 (n *ℤ pos 1_000_000_000)
  scaled_fits = omega (arith, ints, f)

  pub scaled_signed : FitsSigned w128 (to_z w128 (of_z w128 r) *ℤ pos 1_000_000_000)
  scaled_signed = rw scaled scaled_fits

  pub scaled_held : to_z w128 (of_z w128 (to_z w128 (of_z w128 r) *ℤ pos 1_000_000_000)) ≡ n *ℤ pos 1_000_000_000
  scaled_held = ap (λ z. to_z w128 (of_z w128 z)) scaled ∙ to_z-of_z w128 _ scaled_fits

  pub scaled_size : unsigned_abs (to_z w128 (of_z w128 (to_z w128 (of_z w128 r) *ℤ pos 1_000_000_000))) ≤ 2 ^ 126
  scaled_size = rw scaled_held (omega (arith, ints, f))

  opposite : (pos 0 -ℤ to_z w128 (of_z w128 (to_z w128 (of_z w128 r) *ℤ pos 1_000_000_000)))
      ≡ neg_ℤ (n *ℤ pos 1_000_000_000)
  opposite = ap (λ z. pos 0 -ℤ z) scaled_held ∙ omega (arith, ints)

  opposite_fits : FitsSigned w128 (neg_ℤ (n *ℤ pos 1_000_000_000))
  opposite_fits = omega (arith, ints, f)

  pub opposite_signed :
      FitsSigned w128 (pos 0 -ℤ to_z w128 (of_z w128 (to_z w128 (of_z w128 r) *ℤ pos 1_000_000_000)))
  opposite_signed = rw opposite opposite_fits

  pub opposite_held :
      to_z w128 (of_z w128 (pos 0 -ℤ to_z w128 (of_z w128 (to_z w128 (of_z w128 r) *ℤ pos 1_000_000_000))))
      ≡ neg_ℤ (n *ℤ pos 1_000_000_000)
  opposite_held = ap (λ z. to_z w128 (of_z w128 z)) opposite ∙ to_z-of_z w128 _ opposite_fits

  pub opposite_size :
      unsigned_abs
      (to_z w128 (of_z w128 (pos 0 -ℤ to_z w128 (of_z w128 (to_z w128 (of_z w128 r) *ℤ pos 1_000_000_000)))))
      ≤ 2 ^ 126
  opposite_size = rw opposite_held (omega (arith, ints, f))
