-- What holds of each pair of a list, through filters and appends.
use Rattle.std.proofs.Common.{◌≡◌, Bool, true, false, cond, ◌||◌, List, [], ◌∷◌, ◌++◌, refl}
use Rattle.std.specs.List.{AllByRecursion, filter, list_any}
use Rattle.fd_queue.specs.Queue.{InPairs}

each_by : {A : Type 0} (P : A → Type 0) (t : Bool) (x : A) (xs : List A) → P x → AllByRecursion P xs →
    AllByRecursion P (cond t (x ∷ xs) xs)
each_by P true x xs h k = (h, k)
each_by P false x xs h k = k

pub each_filter : {A : Type 0} (P : A → Type 0) (p : A → Bool) (xs : List A) → AllByRecursion P xs →
    AllByRecursion P (filter p xs)
each_filter P p [] h = tt
each_filter P p (x ∷ xs) h = each_by P (p x) x (filter p xs) h.0 (each_filter P p xs h.1)

pub each_weaker : {A : Type 0} (P Q : A → Type 0) → ((x : A) → P x → Q x) → (xs : List A) → AllByRecursion P xs →
    AllByRecursion Q xs
each_weaker P Q f [] h = tt
each_weaker P Q f (x ∷ xs) h = (f x h.0, each_weaker P Q f xs h.1)

pub each_both : {A : Type 0} (P Q : A → Type 0) (xs : List A) → AllByRecursion P xs → AllByRecursion Q xs →
    AllByRecursion (λ x. P x × Q x) xs
each_both P Q [] h k = tt
each_both P Q (x ∷ xs) h k = ((h.0, k.0), each_both P Q xs h.1 k.1)

pub each_append : {A : Type 0} (P : A → Type 0) (xs ys : List A) → AllByRecursion P xs → AllByRecursion P ys →
    AllByRecursion P (xs ++ ys)
each_append P [] ys h k = k
each_append P (x ∷ xs) ys h k = (h.0, each_append P xs ys h.1 k)

passes_by : {A : Type 0} (p : A → Bool) (t : Bool) (x : A) (xs : List A) → (t ≡ true → p x ≡ true) →
    AllByRecursion (λ y. p y ≡ true) xs → AllByRecursion (λ y. p y ≡ true) (cond t (x ∷ xs) xs)
passes_by p true x xs e k = (e refl, k)
passes_by p false x xs e k = k

pub each_passes : {A : Type 0} (p : A → Bool) (xs : List A) → AllByRecursion (λ x. p x ≡ true) (filter p xs)
each_passes p [] = tt
each_passes p (x ∷ xs) = passes_by p (p x) x (filter p xs) (λ e. e) (each_passes p xs)

none_by : (t u : Bool) → (t || u) ≡ false → (t ≡ false) × (u ≡ false)
none_by true u e = absurd (cc)
none_by false u e = (refl, e)

pub none_passes : {A : Type 0} (p : A → Bool) (xs : List A) → list_any p xs ≡ false →
    AllByRecursion (λ x. p x ≡ false) xs
none_passes p [] e = tt
none_passes p (x ∷ xs) e = let parts = none_by (p x) (list_any p xs) e in (parts.0, none_passes p xs parts.1)

pairs_by : {A : Type 0} (R : A → A → Type 0) (t : Bool) (x : A) (xs : List A) → AllByRecursion (R x) xs →
    InPairs R xs → InPairs R (cond t (x ∷ xs) xs)
pairs_by R true x xs h k = (h, k)
pairs_by R false x xs h k = k

pub pairs_filter : {A : Type 0} (R : A → A → Type 0) (p : A → Bool) (xs : List A) → InPairs R xs →
    InPairs R (filter p xs)
pairs_filter R p [] h = tt
pairs_filter R p (x ∷ xs) h = pairs_by R (p x) x (filter p xs) (each_filter (R x) p xs h.0) (pairs_filter R p xs h.1)

pub pairs_append : {A : Type 0} (R : A → A → Type 0) (xs ys : List A) → InPairs R xs → InPairs R ys →
    AllByRecursion (λ x. AllByRecursion (R x) ys) xs → InPairs R (xs ++ ys)
pairs_append R [] ys h k c = k
pairs_append R (x ∷ xs) ys h k c = (each_append (R x) xs ys h.0 c.0, pairs_append R xs ys h.1 k c.1)

-- of a relation that goes both ways, between what passes one test and what passes another that excludes it
split_by : {A : Type 0} (R : A → A → Type 0) → ((x y : A) → R x y → R y x) → (t u : Bool) (x : A) (xs ys : List A) →
    ((t ≡ true) → u ≡ true → ⊥) →
    AllByRecursion (R x) xs → AllByRecursion (R x) ys → AllByRecursion (λ y. AllByRecursion (R y) ys) xs →
    AllByRecursion (λ y. AllByRecursion (R y) (cond u (x ∷ ys) ys)) (cond t (x ∷ xs) xs)
split_by R flip true true x xs ys never h k c = absurd (never refl refl)
split_by R flip true false x xs ys never h k c = (k, c)
split_by R flip false true x xs ys never h k c =
    each_weaker _ _ (λ y p. (flip x y p.0, p.1)) xs (each_both (R x) (λ y. AllByRecursion (R y) ys) xs h c)
split_by R flip false false x xs ys never h k c = c

pub pairs_split : {A : Type 0} (R : A → A → Type 0) → ((x y : A) → R x y → R y x) → (p q : A → Bool) →
    ((x : A) → p x ≡ true → q x ≡ true → ⊥) → (xs : List A) → InPairs R xs →
    AllByRecursion (λ x. AllByRecursion (R x) (filter q xs)) (filter p xs)
pairs_split R flip p q never [] h = tt
pairs_split R flip p q never (x ∷ xs) h = split_by R flip (p x) (q x) x (filter p xs) (filter q xs) (never x)
    (each_filter (R x) p xs h.0) (each_filter (R x) q xs h.0) (pairs_split R flip p q never xs h.1)
