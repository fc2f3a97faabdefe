-- One step of a walk over a list.
use Rattle.std.proofs.Common.{◌≡◌, ◌∙◌, ℕ, zero, suc, ◌+◌, ◌<◌, List, [], ◌∷◌, ◌++◌, length, take, drop, get_or, slice_get, Some, add-one, ap, refl, subst}
use Rattle.std.specs.List.{All}
use Rattle.std.proofs.Math.Seq.{take-suc}
use Rattle.std.proofs.lemmas.Option.{get_or_from_slice_get, slice_get_within}
use Rattle.dss_layout.specs.fd_exact.Sums.{list_n}
use Rattle.fd_devices.proofs.Collecting.{list_n-more}

-- one element more
pub take_next : {A : Type 0} (xs : List A) (k : ℕ) (d : A) → k < length xs → take (k + 1) xs ≡ take k xs ++ get_or xs k d ∷ []
take_next xs k d h = ap (λ n. take n xs) (add-one k) ∙ take-suc xs k d h

pub list_n_next : {A : Type 0} (f : A → ℕ) (xs : List A) (k : ℕ) (d : A) → k < length xs → list_n f (take (k + 1) xs) ≡ list_n f (take k xs) + f (get_or xs k d)
list_n_next f xs k d h = ap (list_n f) (take_next xs k d h) ∙ list_n-more f (take k xs) (get_or xs k d)

-- what holds of all holds of what stands at a place
pub all_at : {A : Type 0} (P : A → Type 0) (xs : List A) (k : ℕ) (x : A) → All P xs → slice_get xs k ≡ Some x → P x
all_at P xs k x h e = subst P (get_or_from_slice_get xs k x x e) (h k x (slice_get_within xs k x e))

-- what a list has at a place is the first of what is left there
pub first_left : {A : Type 0} (xs : List A) (k : ℕ) → slice_get (drop k xs) 0 ≡ slice_get xs k
first_left xs zero = refl
first_left [] (suc k) = refl
first_left (x ∷ xs) (suc k) = first_left xs k
