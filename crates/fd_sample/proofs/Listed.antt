-- Lists of what is there for some elements of a list, and elements by their places.
use Rattle.std.proofs.Common.{◌≡◌, ℕ, zero, suc, ◌+◌, ◌<◌, ◌≤◌, Bool, false, List, [], ◌∷◌, ◌++◌, length, take, drop, slice_get, Option, Some, None, refl, sym, ap, ◌∙◌, subst, arith}
use Rattle.std.specs.Prelude.{All, IfSome}
use Rattle.std.specs.List.{cons_option, filter_map, list_any}
use Rattle.std.specs.Option.{option_to_list}
use Rattle.std.proofs.lemmas.Bool.{or_parts}
use Rattle.std.proofs.lemmas.List.{take-append-drop, take-take}
use Rattle.std.proofs.lemmas.List.Elements.{All-cons, All-from_recursion, All-nil, filter_map-append, recursion_from_All}
use Rattle.fd_network.specs.fd_exact.Sums.{list_n}
use Rattle.fd_network.specs.fd_exact.SumLaws.{list_n-append}
use Rattle.fd_network.proofs.CallerLemmas.dss_layout.{take-more}
use Rattle.fd_network.proofs.CallerLemmas.fd_devices.{all_at}
use Rattle.fd_regctl.specs.fd_queue.Queue.{InPairs}

-- ---- elements by their places

-- the elements before a place
pub slice_get_take : {A : Type 0} (xs : List A) (n k : ℕ) → k < n → slice_get (take n xs) k ≡ slice_get xs k
slice_get_take xs zero k h = absurd (omega arith)
slice_get_take [] (suc n) k h = refl
slice_get_take (x ∷ xs) (suc n) zero h = refl
slice_get_take (x ∷ xs) (suc n) (suc k) h = slice_get_take xs n k (omega arith)

-- a test that no element passes
pub none_at : {A : Type 0} (p : A → Bool) (xs : List A) (k : ℕ) (x : A) → list_any p xs ≡ false
    → slice_get xs k ≡ Some x → p x ≡ false
none_at p [] k x h e = absurd (cc)
none_at p (y ∷ ys) zero x h e = let same : y ≡ x = cc in subst (λ z. p z ≡ false) same (or_parts (p y) (list_any p ys) h).0
none_at p (y ∷ ys) (suc k) x h e = none_at p ys k x (or_parts (p y) (list_any p ys) h).1 e

-- a part of a sum of naturals
pub front_least : {A : Type 0} (f : A → ℕ) (n : ℕ) (xs : List A) → list_n f (take n xs) ≤ list_n f xs
front_least f n xs =
    let whole = sym (list_n-append f (take n xs) (drop n xs)) ∙ ap (list_n f) (take-append-drop n xs) in
    omega (arith, whole)

pub fronts_in_order : {A : Type 0} (f : A → ℕ) (m n : ℕ) (xs : List A) → m ≤ n
    → list_n f (take m xs) ≤ list_n f (take n xs)
fronts_in_order f m n xs h = subst (λ ys. list_n f ys ≤ list_n f (take n xs)) (take-take m n xs h) (front_least f m (take n xs))

-- ---- what is there for some elements of a list

own_listed : {B : Type 0} (o : Option B) → cons_option o [] ≡ option_to_list o
own_listed None = refl
own_listed (Some b) = refl

-- with one element more
pub listed_next : {A B : Type 0} (g : A → Option B) (xs : List A) (k : ℕ) (x : A) → slice_get xs k ≡ Some x →
    filter_map g (take (k + 1) xs) ≡ filter_map g (take k xs) ++ option_to_list (g x)
listed_next g xs k x h =
    ap (filter_map g) (take-more xs k x h) ∙ filter_map-append g (take k xs) (x ∷ []) ∙ ap (λ r. filter_map g (take k xs) ++ r) (own_listed (g x))

first_of_all : {B : Type 0} (P : B → Type 0) (o : Option B) (ys : List B) → IfSome o P → All P ys
    → All P (cons_option o ys)
first_of_all P None ys h all = all
first_of_all P (Some b) ys h all = All-cons P b ys h all

-- what holds of each holds of all
pub all_listed : {A B : Type 0} (P : B → Type 0) (g : A → Option B) (xs : List A) →
    ((k : ℕ) (x : A) → slice_get xs k ≡ Some x → IfSome (g x) P) → All P (filter_map g xs)
all_listed P g [] h = All-nil P
all_listed P g (x ∷ xs) h = first_of_all P (g x) (filter_map g xs) (h zero x refl) (all_listed P g xs (λ k y e. h (suc k) y e))

-- they are no more than the elements
one_more : {B : Type 0} (o : Option B) (ys : List B) (n : ℕ) → length ys ≤ n → length (cons_option o ys) ≤ suc n
one_more None ys n h = omega arith
one_more (Some b) ys n h = omega arith

pub few_listed : {A B : Type 0} (g : A → Option B) (xs : List A) → length (filter_map g xs) ≤ length xs
few_listed g [] = omega arith
few_listed g (x ∷ xs) = one_more (g x) (filter_map g xs) (length xs) (few_listed g xs)

-- what holds of each and each later one
first_pairs : {B : Type 0} (R : B → B → Type 0) (o : Option B) (ys : List B) → IfSome o (λ p. All (R p) ys)
    → InPairs R ys → InPairs R (cons_option o ys)
first_pairs R None ys h k = k
first_pairs R (Some p) ys h k = (recursion_from_All (R p) ys h, k)

later_listed : {A B : Type 0} (R : B → B → Type 0) (g : A → Option B) (o : Option B) (xs : List A) →
    ((k : ℕ) (x : A) → slice_get xs k ≡ Some x → IfSome o (λ p. IfSome (g x) (R p))) → IfSome o (λ p. All (R p) (filter_map g xs))
later_listed R g None xs h = tt
later_listed R g (Some p) xs h = all_listed (R p) g xs h

pub pairs_listed : {A B : Type 0} (R : B → B → Type 0) (g : A → Option B) (xs : List A) →
    ((i j : ℕ) (x y : A) → i < j → slice_get xs i ≡ Some x → slice_get xs j ≡ Some y → IfSome (g x) (λ p. IfSome (g y) (R p))) →
    InPairs R (filter_map g xs)
pairs_listed R g [] h = tt
pairs_listed R g (x ∷ xs) h = first_pairs R (g x) (filter_map g xs)
    (later_listed R g (g x) xs (λ k y e. h zero (suc k) x y (omega arith) refl e))
    (pairs_listed R g xs (λ i j y z less a b. h (suc i) (suc j) y z (omega (arith, less)) a b))

-- ---- elements in pairs

pub pairs_at : {A : Type 0} (R : A → A → Type 0) (xs : List A) (i j : ℕ) (x y : A) → InPairs R xs → i < j
    → slice_get xs i ≡ Some x → slice_get xs j ≡ Some y → R x y
pairs_at R [] i j x y h less at_i at_j = absurd (cc)
pairs_at R (z ∷ zs) i zero x y h less at_i at_j = absurd (omega arith)
pairs_at R (z ∷ zs) zero (suc j) x y h less at_i at_j =
    let same : z ≡ x = cc in
    subst (λ w. R w y) same (all_at (R z) zs j y (All-from_recursion (R z) zs h.0) at_j)
pairs_at R (z ∷ zs) (suc i) (suc j) x y h less at_i at_j = pairs_at R zs i j x y h.1 (omega (arith, less)) at_i at_j
