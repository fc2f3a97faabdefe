-- Sums over the entries of a row are sums over places.
use Rattle.std.proofs.Common.{◌≡◌, ◌∙◌, ℕ, zero, suc, ◌+◌, ◌*◌, ◌<◌, ◌≤◌, ℤ, pos, ◌*ℤ◌, false, cond, eqb, List, [], ◌∷◌, arith, refl, inl, inr}
use Rattle.std.specs.Int.RustNames.{unsigned_abs}
use Rattle.std.proofs.lemmas.Bool.{cases_lt, ne_eqb, eq-eqb}
use Rattle.std.proofs.lemmas.Int.{ints}
use Rattle.std.proofs.lemmas.List.Elements.{All-head, All-tail}
use Rattle.fd_exact.specs.Integers.{add-mul}
use Rattle.fd_exact.specs.SumLaws.{sum_n-add, sum_n-same, sum_n-zero, sum_z-add, sum_z-same, sum_z-zero}
use Rattle.fd_exact.specs.Sums.{list_z, sum_n, sum_z}
use Rattle.fd_factors.specs.Factors.{Entry, HasPlaces, sizes_at, sum_at, weighted_size}

-- ---- integers

other_z : (y : ℕ → ℤ) (s : ℤ) (c n : ℕ) → n ≤ c → sum_z (λ j. cond (eqb c j) s (pos 0) *ℤ y j) n ≡ pos 0
other_z y s c zero h = refl
other_z y s c (suc n) h =
    let e : eqb c n ≡ false = ne_eqb c n (λ p. omega arith) in
    rw (other_z y s c n (omega arith), e) (omega (arith, ints))

single_z : (y : ℕ → ℤ) (s : ℤ) (c n : ℕ) → c < n → sum_z (λ j. cond (eqb c j) s (pos 0) *ℤ y j) n ≡ s *ℤ y c
single_z y s c zero h = absurd (omega arith)
single_z y s c (suc n) h =
    elim (cases_lt c n) [
      | inl p ↦ let e : eqb c n ≡ false = ne_eqb c n (λ s. omega arith) in
          rw (single_z y s c n p, e) (omega (arith, ints))
      | inr p ↦ let q : c ≡ n = omega arith in
          rw (other_z y s c n p, eq-eqb c n q) (rw q (omega (arith, ints)))
    ]

zero_times : (z : ℤ) → pos 0 *ℤ z ≡ pos 0
zero_times z = omega (arith, ints)

-- a row times y
pub row_z : (y : ℕ → ℤ) (n : ℕ) (row : List Entry) → HasPlaces n row → sum_z (λ j. sum_at row j *ℤ y j) n ≡ list_z (λ t. t.1 *ℤ y t.0) row
row_z y n [] h = sum_z-same _ _ n (λ j p. zero_times (y j)) ∙ sum_z-zero n
row_z y n (t ∷ row) h =
    sum_z-same _ _ n (λ j p. add-mul (cond (eqb t.0 j) t.1 (pos 0)) (sum_at row j) (y j))
    ∙ sum_z-add (λ j. cond (eqb t.0 j) t.1 (pos 0) *ℤ y j) (λ j. sum_at row j *ℤ y j) n
    ∙ rw (single_z y t.1 t.0 n (All-head (λ (u : Entry). u.0 < n) t row h), row_z y n row (All-tail (λ (u : Entry). u.0 < n) t row h)) refl

-- ---- naturals

other_n : (a : ℕ → ℕ) (s c n : ℕ) → n ≤ c → sum_n (λ j. cond (eqb c j) s 0 * a j) n ≡ 0
other_n a s c zero h = refl
other_n a s c (suc n) h =
    let e : eqb c n ≡ false = ne_eqb c n (λ p. omega arith) in
    rw (other_n a s c n (omega arith), e) (omega arith)

single_n : (a : ℕ → ℕ) (s c n : ℕ) → c < n → sum_n (λ j. cond (eqb c j) s 0 * a j) n ≡ s * a c
single_n a s c zero h = absurd (omega arith)
single_n a s c (suc n) h =
    elim (cases_lt c n) [
      | inl p ↦ let e : eqb c n ≡ false = ne_eqb c n (λ s. omega arith) in
          rw (single_n a s c n p, e) (omega arith)
      | inr p ↦ let q : c ≡ n = omega arith in
          rw (other_n a s c n p, eq-eqb c n q) (rw q (omega arith))
    ]

add_times : (r s a : ℕ) → (r + s) * a ≡ r * a + s * a
add_times r s a = omega arith

no_times : (a : ℕ) → 0 * a ≡ 0
no_times a = omega arith

pub row_n : (a : ℕ → ℕ) (n : ℕ) (row : List Entry) → HasPlaces n row → sum_n (λ j. sizes_at row j * a j) n ≡ weighted_size row a
row_n a n [] h = sum_n-same _ _ n (λ j p. no_times (a j)) ∙ sum_n-zero n
row_n a n (t ∷ row) h =
    sum_n-same _ _ n (λ j p. add_times (cond (eqb t.0 j) (unsigned_abs t.1) 0) (sizes_at row j) (a j))
    ∙ sum_n-add (λ j. cond (eqb t.0 j) (unsigned_abs t.1) 0 * a j) (λ j. sizes_at row j * a j) n
    ∙ rw (single_n a (unsigned_abs t.1) t.0 n (All-head (λ (u : Entry). u.0 < n) t row h), row_n a n row (All-tail (λ (u : Entry). u.0 < n) t row h)) refl

-- the same of a row with any places, where the numbers from n on are 0
single_or_none : (a : ℕ → ℕ) (s c n : ℕ) → ((j : ℕ) → n ≤ j → a j ≡ 0) → sum_n (λ j. cond (eqb c j) s 0 * a j) n ≡ s * a c
single_or_none a s c n none =
    elim (cases_lt c n) [
      | inl p ↦ single_n a s c n p
      | inr p ↦ let e : n ≤ c = omega arith in
          other_n a s c n e ∙ rw (none c e) (omega arith)
    ]

pub row_beyond : (a : ℕ → ℕ) (n : ℕ) (row : List Entry) → ((j : ℕ) → n ≤ j → a j ≡ 0) → sum_n (λ j. sizes_at row j * a j) n ≡ weighted_size row a
row_beyond a n [] none = sum_n-same _ _ n (λ j p. no_times (a j)) ∙ sum_n-zero n
row_beyond a n (t ∷ row) none =
    sum_n-same _ _ n (λ j p. add_times (cond (eqb t.0 j) (unsigned_abs t.1) 0) (sizes_at row j) (a j))
    ∙ sum_n-add (λ j. cond (eqb t.0 j) (unsigned_abs t.1) 0 * a j) (λ j. sizes_at row j * a j) n
    ∙ rw (single_or_none a (unsigned_abs t.1) t.0 n none, row_beyond a n row none) refl
