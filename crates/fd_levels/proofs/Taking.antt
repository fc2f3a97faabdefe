-- Places that are taken one after another are within a table and apart.
use Rattle.std.proofs.Common.{◌≡◌, ℕ, zero, suc, nat_eq, nat_lt, Bool, true, false, not, ◌&&◌, ◌||◌, List, [], ◌∷◌, set, replicate, slice_get, refl, sym, ap, ◌∙◌, arith}
use Rattle.std.specs.List.{list_all, list_any}
use Rattle.std.proofs.lemmas.Bool.Decides.{nat_tests}
use Rattle.fd_levels.specs.Once.{are_free, is_free}
use Rattle.fd_levels.specs.Order.{are_apart, are_once}

and_true : (a : Bool) → a ≡ (a && true)
and_true true = refl
and_true false = refl

taken_twice : (b : Bool) → false ≡ (not b && false)
taken_twice true = refl
taken_twice false = refl

first_other : (j : ℕ) → not (nat_eq 0 (suc j)) ≡ true
first_other j = grind (arith, nat_tests)

later_other : (k : ℕ) → not (nat_eq (suc k) 0) ≡ true
later_other k = grind (arith, nat_tests)

both_next : (k j : ℕ) → nat_eq (suc k) (suc j) ≡ nat_eq k j
both_next k j = grind (arith, nat_tests)

-- a place that is taken isn't free any more, and the others are as before
set_free : (taken : List Bool) (k j : ℕ) → is_free (slice_get (set taken k true) j) ≡ (is_free (slice_get taken j) && not (nat_eq k j))
set_free [] k j = refl
set_free (b ∷ taken) zero zero = taken_twice b
set_free (b ∷ taken) zero (suc j) = and_true (is_free (slice_get taken j)) ∙ ap (λ c. is_free (slice_get taken j) && c) (sym (first_other j))
set_free (b ∷ taken) (suc k) zero = and_true (not b) ∙ ap (λ c. not b && c) (sym (later_other k))
set_free (b ∷ taken) (suc k) (suc j) =
    set_free taken k j ∙ ap (λ c. is_free (slice_get taken j) && not c) (sym (both_next k j))

four : (a b c d : Bool) → ((a && not c) && (b && not d)) ≡ ((a && b) && not (c || d))
four true true true d = refl
four true true false true = refl
four true true false false = refl
four true false true d = refl
four true false false d = refl
four false b c d = refl

all_free : (taken : List Bool) (k : ℕ) (ks : List ℕ)
    → list_all (λ j. is_free (slice_get (set taken k true) j)) ks ≡ (list_all (λ j. is_free (slice_get taken j)) ks && not (list_any (nat_eq k) ks))
all_free taken k [] = refl
all_free taken k (j ∷ ks) =
    ap (λ b. b && list_all (λ i. is_free (slice_get (set taken k true) i)) ks) (set_free taken k j)
    ∙ ap (λ b. (is_free (slice_get taken j) && not (nat_eq k j)) && b) (all_free taken k ks)
    ∙ four (is_free (slice_get taken j)) (list_all (λ i. is_free (slice_get taken i)) ks) (nat_eq k j) (list_any (nat_eq k) ks)

moved : (a b c d : Bool) → (a && ((b && c) && d)) ≡ ((a && b) && (c && d))
moved true true c d = refl
moved true false c d = refl
moved false b c d = refl

free_apart : (taken : List Bool) (ks : List ℕ) → are_free taken ks ≡ (list_all (λ k. is_free (slice_get taken k)) ks && are_apart ks)
free_apart taken [] = refl
free_apart taken (k ∷ ks) =
    ap (λ b. is_free (slice_get taken k) && b) (free_apart (set taken k true) ks ∙ ap (λ b. b && are_apart ks) (all_free taken k ks))
    ∙ moved (is_free (slice_get taken k)) (list_all (λ i. is_free (slice_get taken i)) ks) (not (list_any (nat_eq k) ks)) (are_apart ks)

none_below : (k : ℕ) → false ≡ nat_lt k 0
none_below k = grind (arith, nat_tests)

first_below : (size : ℕ) → true ≡ nat_lt 0 (suc size)
first_below size = grind (arith, nat_tests)

next_below : (k size : ℕ) → nat_lt k size ≡ nat_lt (suc k) (suc size)
next_below k size = grind (arith, nat_tests)

none_taken : (size k : ℕ) → is_free (slice_get (replicate size false) k) ≡ nat_lt k size
none_taken zero k = none_below k
none_taken (suc size) zero = first_below size
none_taken (suc size) (suc k) = none_taken size k ∙ next_below k size

all_within : (size : ℕ) (ks : List ℕ) → list_all (λ k. is_free (slice_get (replicate size false) k)) ks ≡ list_all (λ k. nat_lt k size) ks
all_within size [] = refl
all_within size (k ∷ ks) =
    ap (λ b. b && list_all (λ i. is_free (slice_get (replicate size false) i)) ks) (none_taken size k)
    ∙ ap (λ b. nat_lt k size && b) (all_within size ks)

-- where no place of so many is taken yet
pub free_once : (size : ℕ) (taken : List Bool) (ks : List ℕ) → taken ≡ replicate size false → are_free taken ks ≡ are_once size ks
free_once size taken ks none =
    ap (λ t. are_free t ks) none ∙ free_apart (replicate size false) ks ∙ ap (λ b. b && are_apart ks) (all_within size ks)
