-- Numbers that are made one after the other, and lists that hold them.
use Rattle.std.proofs.Common.{◌≡◌, ◌≢◌, inl, inr, ◌∙◌, ℕ, zero, suc, ◌+◌, ◌<◌, ◌≤◌, ◌^◌, ℤ, pos, ◌*ℤ◌, List, length, get_or, replicate, set, arith, add-one, ap, refl, subst, sym, get_or-set_other, get_or-set_same}
use Rattle.std.proofs.lemmas.List.{get_or-replicate, get_or_past, length-replicate}
use Rattle.std.proofs.lemmas.Bool.{cases_eq, cases_lt, eq-eqb, ne_eqb}
use Rattle.fd_triangles.specs.Elimination.{pair_at}
use Rattle.fd_triangles.specs.declared.pair.Pair.{Pair}
use Rattle.fd_triangles.specs.fd_derived.fd_factors.fd_exact.States.{part}
use Rattle.fd_triangles.specs.fd_derived.declared.entries.Row.{Row}
use Rattle.fd_substitution.specs.Filling.{filled}
use Rattle.fd_substitution.specs.Sums.{IsPast, IsWithin, raised}
use Rattle.fd_substitution.specs.Substitution.{AreLower, LowerIsPast, LowerIsWithin, UpperIsPast, UpperIsWithin, lower, lower_made, number_of, others_at, pivot_at, place_before, rest_at, unknown_before, upper, upper_made}

-- functions that are equal at each number
ext : (f g : ℕ → ℤ) → ((j : ℕ) → f j ≡ g j) → f ≡ g
ext f g h = λ i j. h j i

-- ---- lists

pub zero_at : (n : ℕ) (xs : List ℤ) → xs ≡ replicate n (pos 0) → (j : ℕ) → part xs j ≡ pos 0
zero_at n xs e j = elim (cases_lt j n) [
  | inl l ↦ ap (λ ys. part ys j) e ∙ get_or-replicate n j (pos 0) (pos 0) l
  | inr l ↦ ap (λ ys. part ys j) e
      ∙ get_or_past (replicate n (pos 0)) j (pos 0) (omega (arith, length-replicate n (pos 0)))
]

-- ---- one step more

module _ {A : Type 0} (none : A) (key : ℕ → ℕ) (make : (ℕ → A) → ℕ → A) where
  pub filled_start : (j : ℕ) → filled none key make 0 j ≡ none
  unfolding filled
  filled_start j = refl

  pub filled_here : (s j : ℕ) → key s ≡ j → filled none key make (suc s) j ≡ make (filled none key make s) s
  unfolding filled
  filled_here s j e = rw (eq-eqb (key s) j e) refl

  pub filled_there : (s j : ℕ) → key s ≢ j → filled none key make (suc s) j ≡ filled none key make s j
  unfolding filled
  filled_there s j apart = rw (ne_eqb (key s) j apart) refl

  -- what stands at a number stays where it is the key of no step between
  pub filled_kept : (u s j : ℕ) → s ≤ u → ((e : ℕ) → s ≤ e → e < u → key e ≢ j)
      → filled none key make u j ≡ filled none key make s j
  filled_kept zero s j l apart = let e : zero ≡ s = omega arith in ap (λ n. filled none key make n j) e
  filled_kept (suc u) s j l apart =
      elim (cases_lt u s) [
        | inl p ↦ let e : suc u ≡ s = omega arith in ap (λ n. filled none key make n j) e
        | inr p ↦ filled_there u j (apart u p (omega arith)) ∙ filled_kept u s j p (λ e a b. apart e a (omega arith))
      ]

  pub filled_more : (s : ℕ) (xs : List A) (v : A) (q : ℕ) → q ≡ key s → q < length xs
      → ((j : ℕ) → get_or xs j none ≡ filled none key make s j) → v ≡ make (filled none key make s) s
      → (j : ℕ) → get_or (set xs q v) j none ≡ filled none key make (s + 1) j
  filled_more s xs v q is q_in are v_is j =
      subst (λ m. get_or (set xs q v) j none ≡ filled none key make m j) (sym (add-one s)) (elim (cases_eq q j) [
        | inl same ↦ subst (λ n. get_or (set xs q v) n none ≡ filled none key make (suc s) n) same
            (get_or-set_same xs q v none q_in ∙ v_is ∙ sym (filled_here s q (sym is)))
        | inr apart ↦ get_or-set_other xs q j v none (λ e. apart (sym e)) ∙ are j
            ∙ sym (filled_there s j (λ e. apart (is ∙ e)))
      ])

-- ---- the numbers of the places

module _ (rows : List Row) (order : List Pair) (right : List ℤ) (t : ℕ) (xs : List ℤ)
    (are : (j : ℕ) → part xs j ≡ lower rows order right t j) where
  lower_same : part xs ≡ lower rows order right t
  lower_same = ext (part xs) (lower rows order right t) are

  pub lower_within : IsWithin (pos 0) (others_at rows t) (part xs) (lower_made rows order right (part xs) t)
      → LowerIsWithin rows order right t
  lower_within h =
      subst (λ (x : ℕ → ℤ). IsWithin (pos 0) (others_at rows t) x (lower_made rows order right x t)) lower_same h

  pub lower_past : IsPast (pos 0) (others_at rows t) (part xs) (lower_made rows order right (part xs) t)
      → LowerIsPast rows order right t
  lower_past h =
      subst (λ (x : ℕ → ℤ). IsPast (pos 0) (others_at rows t) x (lower_made rows order right x t)) lower_same h

  pub lower_more : (v : ℤ) → t < length xs → v ≡ lower_made rows order right (part xs) t
      → (j : ℕ) → part (set xs t v) j ≡ lower rows order right (t + 1) j
  lower_more v t_in e = filled_more (pos 0) (λ k. k) (lower_made rows order right) t xs v t refl t_in are
      (e ∙ ap (λ (x : ℕ → ℤ). lower_made rows order right x t) lower_same)

-- ---- the numbers of the unknowns

module _ (rows : List Row) (order : List Pair) (right : List ℤ) (s : ℕ) (lows xs : List ℤ)
    (on : AreLower rows order right lows) (are : (j : ℕ) → part xs j ≡ upper rows order right s j)
    (t : ℕ) (t_is : t ≡ place_before order s) where
  upper_same : part xs ≡ upper rows order right s
  upper_same = ext (part xs) (upper rows order right s) are

  there : (P : ℕ → ℤ → (ℕ → ℤ) → Type 0) → P t (part lows t) (part xs)
      → P (place_before order s) (number_of rows order right (place_before order s)) (upper rows order right s)
  there P h =
      subst (P (place_before order s) (number_of rows order right (place_before order s))) upper_same
      (subst (λ n. P (place_before order s) n (part xs)) (on.each (place_before order s))
      (subst (λ i. P i (part lows i) (part xs)) t_is h))

  pub upper_within : IsWithin (pos (2 ^ 40) *ℤ part lows t) (rest_at rows t) (part xs)
      (raised (part lows t) (rest_at rows t) (part xs) (pivot_at rows t)) → UpperIsWithin rows order right s
  upper_within h =
      there (λ i n x. IsWithin (pos (2 ^ 40) *ℤ n) (rest_at rows i) x (raised n (rest_at rows i) x (pivot_at rows i))) h

  pub upper_past : IsPast (pos (2 ^ 40) *ℤ part lows t) (rest_at rows t) (part xs)
      (raised (part lows t) (rest_at rows t) (part xs) (pivot_at rows t)) → UpperIsPast rows order right s
  upper_past h =
      there (λ i n x. IsPast (pos (2 ^ 40) *ℤ n) (rest_at rows i) x (raised n (rest_at rows i) x (pivot_at rows i))) h

  pub unknown_there : (pair_at order t).unknown ≡ unknown_before order s
  unknown_there = ap (λ i. (pair_at order i).unknown) t_is

  pub upper_more : (v : ℤ) → (pair_at order t).unknown < length xs
      → v ≡ raised (part lows t) (rest_at rows t) (part xs) (pivot_at rows t)
      → (j : ℕ) → part (set xs (pair_at order t).unknown v) j ≡ upper rows order right (s + 1) j
  upper_more v q_in e =
      filled_more (pos 0) (unknown_before order) (upper_made rows order right) s xs v (pair_at order t).unknown
      unknown_there q_in are (there (λ i n x. v ≡ raised n (rest_at rows i) x (pivot_at rows i)) e)
