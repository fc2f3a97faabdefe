-- Places that are taken one after another.
use Rattle.std.specs.Prelude.{ℕ, Bool, true, false, not, ◌&&◌, List, [], ◌∷◌, set, slice_get, Option, Some, None}

-- there is such a place, and it is free
abbrev pub is_free : Option Bool → Bool
is_free None = false
is_free (Some taken) = not taken

-- each of these places is free when its turn comes
abbrev pub are_free : List Bool → List ℕ → Bool
are_free taken [] = true
are_free taken (k ∷ ks) = is_free (slice_get taken k) && are_free (set taken k true) ks
