-- The sizes of a source's impedances, from the numbers that a body computes with.
use Rattle.std.proofs.Common.{◌≡◌, ◌∙◌, ℕ, ◌<◌, ◌≤◌, ◌^◌, ℤ, pos, ◌≤ℤ◌, Bool, true, false, nat_lt, to_z, of_z, arith, lit<, sym, subst}
use Rattle.std.specs.Int.{w128}
use Rattle.std.proofs.lemmas.Bool.{ltb-false, or_parts}
use Rattle.std.proofs.lemmas.Int.{ints, to_z-of_z, fits_signed_from_abs}
use Rattle.fd_system.specs.fd_arith.ShortCircuit.{is_source_above_limit, most_source_ohms, short_circuit_ohms}
use Rattle.fd_source.specs.declared.data.ShortCircuit.{ShortCircuit}
use Rattle.fd_source.specs.Powers.{IsPast, IsShortCircuit, one_phase_size, three_phase_size}

read_from : (low high : ℕ) (z : ℤ) → pos low ≤ℤ z → z ≤ℤ pos high → high < 2 ^ 127 → to_z w128 (of_z w128 z) ≡ z
read_from low high z l h m = to_z-of_z w128 z (fits_signed_from_abs w128 z (omega (arith, ints)))

above_zero : (low : ℕ) (z : ℤ) → pos low ≤ℤ z → pos 0 ≤ℤ z
above_zero low z l = omega (arith, ints)

module _ (s : ShortCircuit) (h : IsShortCircuit s) where
  volts_read : to_z w128 (of_z w128 s.basekv) ≡ s.basekv
  volts_read = read_from (10 ^ 6) (10 ^ 12) s.basekv h.kv_least h.kv_most (lit< tt)

  three_read : to_z w128 (of_z w128 s.mvasc3) ≡ s.mvasc3
  three_read = read_from (10 ^ 6) (10 ^ 15) s.mvasc3 h.three_least h.three_most (lit< tt)

  one_read : to_z w128 (of_z w128 s.mvasc1) ≡ s.mvasc1
  one_read = read_from (10 ^ 6) (10 ^ 15) s.mvasc1 h.one_least h.one_most (lit< tt)

  -- the ranges of what the code reads
  pub volts_sign : pos 0 ≤ℤ to_z w128 (of_z w128 s.basekv)
  volts_sign = subst (λ z. pos 0 ≤ℤ z) (sym volts_read) (above_zero (10 ^ 6) s.basekv h.kv_least)

  pub volts_most : to_z w128 (of_z w128 s.basekv) ≤ℤ pos (10 ^ 12)
  volts_most = subst (λ z. z ≤ℤ pos (10 ^ 12)) (sym volts_read) h.kv_most

  pub three_least : pos (10 ^ 6) ≤ℤ to_z w128 (of_z w128 s.mvasc3)
  three_least = subst (λ z. pos (10 ^ 6) ≤ℤ z) (sym three_read) h.three_least

  pub one_least : pos (10 ^ 6) ≤ℤ to_z w128 (of_z w128 s.mvasc1)
  one_least = subst (λ z. pos (10 ^ 6) ≤ℤ z) (sym one_read) h.one_least

  -- the sizes
  pub three_is : (n : ℕ) → n ≡ short_circuit_ohms (to_z w128 (of_z w128 s.basekv)) (to_z w128 (of_z w128 s.mvasc3))
      → n ≡ three_phase_size s
  three_is n e = e ∙ (λ i. short_circuit_ohms (volts_read i) (three_read i))

  pub one_is : (n : ℕ) → n ≡ short_circuit_ohms (to_z w128 (of_z w128 s.basekv)) (to_z w128 (of_z w128 s.mvasc1))
      → n ≡ one_phase_size s
  one_is n e = e ∙ (λ i. short_circuit_ohms (volts_read i) (one_read i))

  -- what the test of the limit says
  module _ (b : Bool) (e : b ≡ is_source_above_limit (to_z w128 (of_z w128 s.basekv))
      (to_z w128 (of_z w128 s.mvasc3)) (to_z w128 (of_z w128 s.mvasc1))) where
    limit_is : b ≡ is_source_above_limit s.basekv s.mvasc3 s.mvasc1
    limit_is = e ∙ (λ i. is_source_above_limit (volts_read i) (three_read i) (one_read i))

    pub past : b ≡ true → IsPast s
    past t = sym limit_is ∙ t

    pub not_past : b ≡ false → IsPast s → ⊥
    not_past f p = let same : false ≡ true = sym f ∙ limit_is ∙ p in cc

    within : b ≡ false
        → (nat_lt most_source_ohms (three_phase_size s) ≡ false) × (nat_lt most_source_ohms (one_phase_size s) ≡ false)
    within f = or_parts _ _ (sym limit_is ∙ f)

    pub three_within : b ≡ false → (n : ℕ) → n ≡ three_phase_size s → n ≤ most_source_ohms
    three_within f n is = subst (λ t. t ≤ most_source_ohms) (sym is) (ltb-false most_source_ohms _ (within f).0)

    pub one_within : b ≡ false → (n : ℕ) → n ≡ one_phase_size s → n ≤ most_source_ohms
    one_within f n is = subst (λ t. t ≤ most_source_ohms) (sym is) (ltb-false most_source_ohms _ (within f).1)
