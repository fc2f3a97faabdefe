-- Lists of a function's values, and sums over the first elements of a list.
use Rattle.std.proofs.Common.{◌≡◌, ◌∙◌, ℕ, ◌+◌, ◌<◌, ◌≤◌, ℤ, pos, ◌+ℤ◌, nat_abs, List, [], ◌∷◌, ◌++◌, length, take, drop, replicate, get_or, arith, ap, sym, subst, zero-add, inl, inr}
use Rattle.std.proofs.Math.Seq.{take-append_seam}
use Rattle.std.proofs.lemmas.Bool.{cases_lt}
use Rattle.fd_mat.specs.fd_exact.States.{part}
use Rattle.fd_mat.specs.fd_exact.Sums.{list_z, list_n}
use Rattle.fd_mat.specs.fd_exact.SumLaws.{list_z-append, list_n-append}
use Rattle.std.proofs.lemmas.Int.{ints}
use Rattle.std.proofs.lemmas.List.{take_more, ext_get_or, get_or-replicate, length-replicate, get_or_past}
use Rattle.std.proofs.lemmas.List.FromFn.{length-map-range_with_len, get_or-map-range_with_len, map-range_with_len_more}
use Rattle.fd_equations.specs.Rounded.{list_of}

pub length-list_of : {X : Type 0} (n : ℕ) (f : ℕ → X) → length (list_of n f) ≡ n
length-list_of n f = length-map-range_with_len f 0 n

pub get_or-list_of : {X : Type 0} (n : ℕ) (f : ℕ → X) (i : ℕ) (d : X) → i < n → get_or (list_of n f) i d ≡ f i
get_or-list_of n f i d h = get_or-map-range_with_len f 0 n i i d h (zero-add i)

-- a list with a function's values at its places
pub list_of-ext : {X : Type 0} (xs : List X) (n : ℕ) (f : ℕ → X) (d : X) → length xs ≡ n → ((i : ℕ) → i < n → get_or xs i d ≡ f i) → xs ≡ list_of n f
list_of-ext xs n f d e h = ext_get_or d xs (list_of n f) (e ∙ sym (length-list_of n f)) (λ i l. h i (omega arith) ∙ sym (get_or-list_of n f i d (omega arith)))

pub list_of-more : {X : Type 0} (n : ℕ) (f : ℕ → X) → list_of (n + 1) f ≡ list_of n f ++ f n ∷ []
list_of-more n f = map-range_with_len_more f 0 n n (zero-add n)

-- what a call wrote through a Vec's slice
pub rewritten : {X : Type 0} (xs new : List X) (n : ℕ) → n ≡ length new → take n (new ++ drop (length new) xs) ≡ new
rewritten xs new n e = ap (λ k. take k (new ++ drop (length new) xs)) e ∙ take-append_seam new (drop (length new) xs)

pub part-zeros : (n i : ℕ) → part (replicate n (pos 0)) i ≡ pos 0
part-zeros n i = elim (cases_lt i n) [
  | inl l ↦ get_or-replicate n i (pos 0) (pos 0) l
  | inr ge ↦ get_or_past (replicate n (pos 0)) i (pos 0) (subst (λ k. k ≤ i) (sym (length-replicate n (pos 0))) ge)
]

-- a bound on each value bounds each entry, also outside the list
pub part-list_of-small : (n : ℕ) (f : ℕ → ℤ) (b : ℕ) → ((i : ℕ) → i < n → nat_abs (f i) ≤ b) → (i : ℕ) → nat_abs (part (list_of n f) i) ≤ b
part-list_of-small n f b h i = elim (cases_lt i n) [
  | inl l ↦ subst (λ z. nat_abs z ≤ b) (sym (get_or-list_of n f i (pos 0) l)) (h i l)
  | inr ge ↦ subst (λ z. nat_abs z ≤ b) (sym (get_or_past (list_of n f) i (pos 0) (subst (λ k. k ≤ i) (sym (length-list_of n f)) ge))) (omega arith)
]

-- ---- sums over a list so far

pub list_z_more : {A : Type 0} (f : A → ℤ) (xs : List A) (k : ℕ) (d : A) → k < length xs
    → list_z f (take (k + 1) xs) ≡ (list_z f (take k xs) +ℤ f (get_or xs k d))
list_z_more f xs k d h = ap (list_z f) (take_more xs k d h) ∙ list_z-append f (take k xs) (get_or xs k d ∷ []) ∙ last (list_z f (take k xs)) (f (get_or xs k d))
  where
    last : (a b : ℤ) → (a +ℤ (b +ℤ pos 0)) ≡ (a +ℤ b)
    last a b = omega (arith, ints)

pub list_n_more : {A : Type 0} (f : A → ℕ) (xs : List A) (k : ℕ) (d : A) → k < length xs → list_n f (take (k + 1) xs) ≡ list_n f (take k xs) + f (get_or xs k d)
list_n_more f xs k d h = ap (list_n f) (take_more xs k d h) ∙ list_n-append f (take k xs) (get_or xs k d ∷ []) ∙ last (list_n f (take k xs)) (f (get_or xs k d))
  where
    last : (a b : ℕ) → a + (b + 0) ≡ a + b
    last a b = omega arith
