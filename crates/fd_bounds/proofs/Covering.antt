-- Numbers below n that are n and all different are all numbers below n.
use Rattle.std.proofs.Common.{◌≡◌, ◌≢◌, ◌⊎◌, inl, inr, ℕ, zero, suc, ◌<◌, eqb, true, List, ◌∷◌, length, get_or, map, All, AllPairs, arith, subst, sym, ◌∙◌}
use Rattle.std.specs.List.{list_any, range_with_len}
use Rattle.std.proofs.lemmas.Bool.{cases_eq, cases_lt, ne_eqb}
use Rattle.std.proofs.lemmas.Bool.Decides.{Decides-eqb}
use Rattle.std.proofs.lemmas.List.{length-map}
use Rattle.std.proofs.lemmas.List.Folds.{list_any_none}
use Rattle.std.proofs.lemmas.List.FromFn.{get_or-map-range_with_len, length-range_with_len}
use Rattle.std.proofs.lemmas.List.Kept.{AllPairs-cons}
use Rattle.std.proofs.lemmas.Map.Made.{IsDistinct-from_AllPairs}
use Rattle.std.proofs.lemmas.Map.Steps.{length-le_from_distinct_below}

-- one of the first n numbers of f is j, or none is
found_or : (f : ℕ → ℕ) (n j : ℕ) → ((t : ℕ) × (t < n) × (f t ≡ j)) ⊎ ((t : ℕ) → t < n → f t ≢ j)
found_or f zero j = inr (λ t l. absurd (omega arith))
found_or f (suc n) j =
    elim (cases_eq (f n) j) [
      | inl here ↦ inl (n, omega arith, here)
      | inr apart ↦ elim (found_or f n j) [
        | inl at ↦ let low : at.0 < n = at.1 in inl (at.0, omega (arith, low), at.2)
        | inr none ↦ inr (λ t l. elim (cases_lt t n) [
          | inl m ↦ none t m
          | inr m ↦ let q : n ≡ t = omega arith in subst (λ k. f k ≢ j) q apart
        ])
      ]
    ]

module _ (f : ℕ → ℕ) (n : ℕ) (below : (t : ℕ) → t < n → f t < n) (apart : (s t : ℕ) → s < t → t < n → f s ≢ f t) where
  abbrev values : List ℕ
  values = map f (range_with_len 0 n)

  long : length values ≡ n
  long = length-map (range_with_len 0 n) f ∙ length-range_with_len 0 n

  value_at : (i d : ℕ) → i < n → get_or values i d ≡ f i
  value_at i d l = get_or-map-range_with_len f 0 n i i d l (omega arith)

  module _ (j : ℕ) (low : j < n) (none : (t : ℕ) → t < n → f t ≢ j) where
    different : AllPairs (λ x y. x ≢ y) (j ∷ values)
    different = AllPairs-cons (λ x y. x ≢ y) j values
        (λ k d l e. let k_in : k < n = omega (arith, l, long) in none k k_in (sym (e ∙ value_at k d k_in)))
        (λ i k d l m e.
        let k_in : k < n = omega (arith, m, long) in
        let i_in : i < n = omega arith in
        apart i k l k_in (sym (value_at i d i_in) ∙ e ∙ value_at k d k_in))

    all_low : All (λ x. x < n) (j ∷ values)
    all_low zero d l = low
    all_low (suc k) d l =
        let k_in : k < n = omega (arith, l, long) in subst (λ x. x < n) (sym (value_at k d k_in)) (below k k_in)

    any_low : (q : ℕ) → list_any (eqb q) (j ∷ values) ≡ true → q < n
    any_low q any = elim (cases_lt q n) [
      | inl l ↦ l
      | inr l ↦
          let none_is = list_any_none (eqb q) (j ∷ values) (λ k d m.
          ne_eqb q (get_or (j ∷ values) k d) (λ e. omega (arith, e, all_low k d m))) in
          let no : ⊥ = cc in absurd no
    ]

    too_many : ⊥
    too_many =
        let most = length-le_from_distinct_below (j ∷ values) n
        (IsDistinct-from_AllPairs Decides-eqb (j ∷ values) different) any_low in
        omega (arith, most, long)

  pub covering : (j : ℕ) → j < n → (t : ℕ) × (t < n) × (f t ≡ j)
  covering j low = elim (found_or f n j) [
    | inl at ↦ at
    | inr none ↦ absurd (too_many j low none)
  ]
