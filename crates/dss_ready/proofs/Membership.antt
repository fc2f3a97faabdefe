-- Elements of lists.
use Rattle.std.proofs.Common.{◌≡◌, ℕ, zero, suc, ◌<◌, Bool, true, false, ◌||◌, if◌then◌else◌, List, [], ◌∷◌, ◌++◌, length, map, filter, slice_index_or, slice_get, Some, Contains, ◌⊎◌, inl, inr, refl, sym, ap, subst, ◌∙◌, arith}
use Rattle.std.specs.List.{flat_map, zip, list_any}

-- x is an element
abbrev pub In : {X : Type 0} → X → List X → Type 0
In x [] = ⊥
In x (y ∷ ys) = (y ≡ x) ⊎ In x ys

in_at : {X : Type 0} (xs : List X) (x : X) (k : ℕ) → k < length xs → slice_index_or xs k x ≡ x → In x xs
in_at [] x k h e = absurd (omega arith)
in_at (y ∷ ys) x zero h e = inl e
in_at (y ∷ ys) x (suc k) h e = inr (in_at ys x k (omega arith) e)

pub in_from_contains : {X : Type 0} (xs : List X) (x : X) → Contains xs x → In x xs
in_from_contains xs x c = in_at xs x c.0 c.1 c.2

pub contains_from_in : {X : Type 0} (xs : List X) (x : X) → In x xs → Contains xs x
contains_from_in [] x h = absurd h
contains_from_in (y ∷ ys) x (inl e) = (0, omega arith, e)
contains_from_in (y ∷ ys) x (inr h) = let c = contains_from_in ys x h in (suc c.0, (let l : c.0 < length ys = c.1 in omega arith), c.2)

pub in_append_left : {X : Type 0} (xs ys : List X) (x : X) → In x xs → In x (xs ++ ys)
in_append_left [] ys x h = absurd h
in_append_left (y ∷ xs) ys x (inl e) = inl e
in_append_left (y ∷ xs) ys x (inr h) = inr (in_append_left xs ys x h)

pub in_append_right : {X : Type 0} (xs ys : List X) (x : X) → In x ys → In x (xs ++ ys)
in_append_right [] ys x h = h
in_append_right (y ∷ xs) ys x h = inr (in_append_right xs ys x h)

in_later : {X : Type 0} (y x : X) (xs ys : List X) → In x xs ⊎ In x ys → In x (y ∷ xs) ⊎ In x ys
in_later y x xs ys (inl h) = inl (inr h)
in_later y x xs ys (inr h) = inr h

pub in_append_cases : {X : Type 0} (xs ys : List X) (x : X) → In x (xs ++ ys) → In x xs ⊎ In x ys
in_append_cases [] ys x h = inr h
in_append_cases (y ∷ xs) ys x (inl e) = inl (inl e)
in_append_cases (y ∷ xs) ys x (inr h) = in_later y x xs ys (in_append_cases xs ys x h)

pub in_map : {X Y : Type 0} (f : X → Y) (xs : List X) (x : X) → In x xs → In (f x) (map f xs)
in_map f [] x h = absurd h
in_map f (y ∷ xs) x (inl e) = inl (ap f e)
in_map f (y ∷ xs) x (inr h) = inr (in_map f xs x h)

-- y is what f makes of an element
pub record IsImage {X Y : Type 0} (f : X → Y) (xs : List X) (y : Y) : Type 0 where
  pub source : X
  pub is_in : In source xs
  pub is_made : f source ≡ y

pub in_map_from : {X Y : Type 0} (f : X → Y) (xs : List X) (y : Y) → In y (map f xs) → IsImage f xs y
in_map_from f [] y h = absurd h
in_map_from f (x ∷ xs) y (inl e) = record { source = x; is_in = inl refl; is_made = e }
in_map_from f (x ∷ xs) y (inr h) = let r = in_map_from f xs y h in record { source = r.source; is_in = inr r.is_in; is_made = r.is_made }

-- y is an element of what f makes of an element
pub record IsPart {X Y : Type 0} (f : X → List Y) (xs : List X) (y : Y) : Type 0 where
  pub source : X
  pub is_in : In source xs
  pub part : In y (f source)

part_later : {X Y : Type 0} (f : X → List Y) (x : X) (xs : List X) (y : Y) → IsPart f xs y → IsPart f (x ∷ xs) y
part_later f x xs y r = record { source = r.source; is_in = inr r.is_in; part = r.part }

pub in_flat_map : {X Y : Type 0} (f : X → List Y) (xs : List X) (x : X) (y : Y) → In x xs → In y (f x)
    → In y (flat_map f xs)
in_flat_map f [] x y h p = absurd h
in_flat_map f (z ∷ xs) x y (inl e) p = in_append_left (f z) (flat_map f xs) y (subst (λ w. In y (f w)) (sym e) p)
in_flat_map f (z ∷ xs) x y (inr h) p = in_append_right (f z) (flat_map f xs) y (in_flat_map f xs x y h p)

pub in_flat_map_from : {X Y : Type 0} (f : X → List Y) (xs : List X) (y : Y) → In y (flat_map f xs) → IsPart f xs y
in_flat_map_from f [] y h = absurd h
in_flat_map_from f (x ∷ xs) y h = by (in_append_cases (f x) (flat_map f xs) y h) (in_flat_map_from f xs y)
  where
    by : In y (f x) ⊎ In y (flat_map f xs) → (In y (flat_map f xs) → IsPart f xs y) → IsPart f (x ∷ xs) y
    by (inl p) later = record { source = x; is_in = inl refl; part = p }
    by (inr p) later = part_later f x xs y (later p)

pub in_filter : {X : Type 0} (p : X → Bool) (xs : List X) (x : X) → In x xs → p x ≡ true → In x (filter p xs)
in_filter p [] x h t = absurd h
in_filter p (y ∷ xs) x (inl e) t = subst (λ b. In x (if b then y ∷ filter p xs else filter p xs)) (sym (ap p e ∙ t)) (inl e)
in_filter p (y ∷ xs) x (inr h) t = by (p y) (in_filter p xs x h t)
  where
    by : (b : Bool) → In x (filter p xs) → In x (if b then y ∷ filter p xs else filter p xs)
    by true r = inr r
    by false r = r

pub in_filter_from : {X : Type 0} (p : X → Bool) (xs : List X) (x : X) → In x (filter p xs) → In x xs × (p x ≡ true)
in_filter_from p [] x h = absurd h
in_filter_from p (y ∷ xs) x h = by (p y) refl h (in_filter_from p xs x)
  where
    by : (b : Bool) → p y ≡ b → In x (if b then y ∷ filter p xs else filter p xs)
        → (In x (filter p xs) → In x xs × (p x ≡ true)) → In x (y ∷ xs) × (p x ≡ true)
    by true t (inl e) later = (inl e, ap p (sym e) ∙ t)
    by true t (inr r) later = (inr (later r).0, (later r).1)
    by false t r later = (inr (later r).0, (later r).1)

pub in_zip_from : {A B : Type 0} (xs : List A) (ys : List B) (p : A × B) → In p (zip xs ys) → In p.0 xs × In p.1 ys
in_zip_from [] ys p h = absurd h
in_zip_from (x ∷ xs) [] p h = absurd h
in_zip_from {A} {B} (x ∷ xs) (y ∷ ys) p (inl e) = (inl (ap (λ (q : A × B). q.0) e), inl (ap (λ (q : A × B). q.1) e))
in_zip_from (x ∷ xs) (y ∷ ys) p (inr h) = (inr (in_zip_from xs ys p h).0, inr (in_zip_from xs ys p h).1)

-- an element passes the test
pub record IsPassing {X : Type 0} (p : X → Bool) (xs : List X) : Type 0 where
  pub element : X
  pub is_in : In element xs
  pub passes : p element ≡ true

passing_later : {X : Type 0} (p : X → Bool) (x : X) (xs : List X) → IsPassing p xs → IsPassing p (x ∷ xs)
passing_later p x xs r = record { element = r.element; is_in = inr r.is_in; passes = r.passes }

pub in_from_list_any : {X : Type 0} (p : X → Bool) (xs : List X) → list_any p xs ≡ true → IsPassing p xs
in_from_list_any p [] h = cc
in_from_list_any p (x ∷ xs) h = by (p x) refl h (in_from_list_any p xs)
  where
    by : (b : Bool) → p x ≡ b → (b || list_any p xs) ≡ true → (list_any p xs ≡ true → IsPassing p xs)
        → IsPassing p (x ∷ xs)
    by true t e later = record { element = x; is_in = inl refl; passes = t }
    by false t e later = passing_later p x xs (later e)

pub none_from_list_any : {X : Type 0} (p : X → Bool) (xs : List X) (x : X) → list_any p xs ≡ false → In x xs
    → p x ≡ false
none_from_list_any p [] x h i = absurd i
none_from_list_any p (y ∷ xs) x h i = by (p y) refl h i (none_from_list_any p xs x)
  where
    by : (b : Bool) → p y ≡ b → (b || list_any p xs) ≡ false → In x (y ∷ xs)
        → (list_any p xs ≡ false → In x xs → p x ≡ false) → p x ≡ false
    by true t e i later = cc
    by false t e (inl q) later = ap p (sym q) ∙ t
    by false t e (inr q) later = later e q

pub in_index : {X : Type 0} (xs : List X) (k : ℕ) (d : X) → k < length xs → In (slice_index_or xs k d) xs
in_index [] k d h = absurd (omega arith)
in_index (x ∷ xs) zero d h = inl refl
in_index (x ∷ xs) (suc k) d h = inr (in_index xs k d (omega arith))

pub in_from_get : {X : Type 0} (xs : List X) (k : ℕ) (x : X) → slice_get xs k ≡ Some x → In x xs
in_from_get [] k x h = cc
in_from_get (y ∷ xs) zero x h = inl cc
in_from_get (y ∷ xs) (suc k) x h = inr (in_from_get xs k x h)
