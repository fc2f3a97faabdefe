-- What holds of each element of a list, and of each pair.
use Rattle.std.proofs.Common.{◌≢◌, ℕ, zero, suc, ◌<◌, ◌≤◌, Bool, true, false, cond, List, [], ◌∷◌, ◌++◌, length, drop, get_or, refl, ap, arith}
use Rattle.std.specs.Prelude.{All}
use Rattle.std.specs.List.{AllByRecursion, filter}
use Rattle.fd_sample.specs.fd_queue.Queue.{InPairs}

each_by : {A : Type 0} (P : A → Type 0) (t : Bool) (x : A) (xs : List A) → P x → AllByRecursion P xs
    → AllByRecursion P (cond t (x ∷ xs) xs)
each_by P true x xs h k = (h, k)
each_by P false x xs h k = k

pub each_filter : {A : Type 0} (P : A → Type 0) (p : A → Bool) (xs : List A) → AllByRecursion P xs
    → AllByRecursion P (filter p xs)
each_filter P p [] h = tt
each_filter P p (x ∷ xs) h = each_by P (p x) x (filter p xs) h.0 (each_filter P p xs h.1)

pub each_append : {A : Type 0} (P : A → Type 0) (xs ys : List A) → AllByRecursion P xs → AllByRecursion P ys
    → AllByRecursion P (xs ++ ys)
each_append P [] ys h k = k
each_append P (x ∷ xs) ys h k = (h.0, each_append P xs ys h.1 k)

pub each_weaker : {A : Type 0} (P Q : A → Type 0) → ((x : A) → P x → Q x) → (xs : List A) → AllByRecursion P xs
    → AllByRecursion Q xs
each_weaker P Q f [] h = tt
each_weaker P Q f (x ∷ xs) h = (f x h.0, each_weaker P Q f xs h.1)

pub each_both : {A : Type 0} (P Q : A → Type 0) (xs : List A) → AllByRecursion P xs → AllByRecursion Q xs
    → AllByRecursion (λ x. P x × Q x) xs
each_both P Q [] h k = tt
each_both P Q (x ∷ xs) h k = ((h.0, k.0), each_both P Q xs h.1 k.1)

pairs_by : {A : Type 0} (R : A → A → Type 0) (t : Bool) (x : A) (xs : List A) → AllByRecursion (R x) xs → InPairs R xs →
    InPairs R (cond t (x ∷ xs) xs)
pairs_by R true x xs h k = (h, k)
pairs_by R false x xs h k = k

pub pairs_filter : {A : Type 0} (R : A → A → Type 0) (p : A → Bool) (xs : List A) → InPairs R xs
    → InPairs R (filter p xs)
pairs_filter R p [] h = tt
pairs_filter R p (x ∷ xs) h = pairs_by R (p x) x (filter p xs) (each_filter (R x) p xs h.0) (pairs_filter R p xs h.1)

-- ---- by place

pub each_at : {A : Type 0} (P : A → Type 0) (xs : List A) (k : ℕ) (d : A) → AllByRecursion P xs → k < length xs
    → P (get_or xs k d)
each_at P [] k d h l = absurd (omega arith)
each_at P (x ∷ xs) zero d h l = h.0
each_at P (x ∷ xs) (suc k) d h l = each_at P xs k d h.1 (omega arith)

-- what the rest begins with
pub each_drop : {A : Type 0} (P : A → Type 0) (xs : List A) (n : ℕ) → AllByRecursion P xs → AllByRecursion P (drop n xs)
each_drop P xs zero h = h
each_drop P [] (suc n) h = tt
each_drop P (x ∷ xs) (suc n) h = each_drop P xs n h.1

pub all_or : {A : Type 0} (P : A → Type 0) (xs : List A) (k : ℕ) (d : A) → All P xs → P d → P (get_or xs k d)
all_or P [] k d h i = i
all_or P (x ∷ xs) zero d h i = h 0 d (omega arith)
all_or P (x ∷ xs) (suc k) d h i = all_or P xs k d (λ j e l. h (suc j) e (omega arith)) i

-- a relation that goes both ways, of two places
pub pair_at : {A : Type 0} (R : A → A → Type 0) → ((x y : A) → R x y → R y x) → (xs : List A) (i j : ℕ) (d e : A)
    → InPairs R xs →
    i ≢ j → i < length xs → j < length xs → R (get_or xs i d) (get_or xs j e)
pair_at R flip [] i j d e h n l m = absurd (omega arith)
pair_at R flip (x ∷ xs) zero zero d e h n l m = absurd (n refl)
pair_at R flip (x ∷ xs) zero (suc j) d e h n l m = each_at (R x) xs j e h.0 (omega arith)
pair_at R flip (x ∷ xs) (suc i) zero d e h n l m = flip x (get_or xs i d) (each_at (R x) xs i d h.0 (omega arith))
pair_at R flip (x ∷ xs) (suc i) (suc j) d e h n l m = pair_at R flip xs i j d e h.1 (λ q. n (ap suc q)) (omega arith) (omega arith)

few_by : {A : Type 0} (t : Bool) (x : A) (ys : List A) (n : ℕ) → length ys ≤ n → length (cond t (x ∷ ys) ys) ≤ suc n
few_by true x ys n h = omega arith
few_by false x ys n h = omega arith

pub filter_few : {A : Type 0} (p : A → Bool) (xs : List A) → length (filter p xs) ≤ length xs
filter_few p [] = omega arith
filter_few p (x ∷ xs) = few_by (p x) x (filter p xs) (length xs) (filter_few p xs)
