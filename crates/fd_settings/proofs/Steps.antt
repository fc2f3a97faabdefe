-- One step of a walk over a list.
use Rattle.std.proofs.Common.{◌≡◌, ◌∙◌, ℕ, ◌+◌, List, [], ◌∷◌, ◌++◌, take, slice_get, Some, ap}
use Rattle.std.specs.List.{flat_map}
use Rattle.std.proofs.lemmas.Grind.{flat_map-append}
use Rattle.std.proofs.lemmas.List.{append-nil}
use Rattle.fd_devices.proofs.CallerLemmas.dss_layout.{take-more}

-- one element more, which stands at a place
pub flat_map_at : {A B : Type 0} (f : A → List B) (xs : List A) (k : ℕ) (x : A) → slice_get xs k ≡ Some x
    → flat_map f (take (k + 1) xs) ≡ flat_map f (take k xs) ++ f x
flat_map_at f xs k x h =
    ap (flat_map f) (take-more xs k x h) ∙ flat_map-append f (take k xs) (x ∷ []) ∙ ap (λ r. flat_map f (take k xs) ++ r) (append-nil (f x))
