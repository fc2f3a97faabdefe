-- The record of an accepted certificate, as a list of fields.
use Rattle.std.specs.Prelude.{ℕ, List, [], ◌∷◌, codes}
use Rattle.std.specs.Fmt.{decimal}

-- by the number of its blocks
abbrev pub accepted_fields : ℕ → List (List ℕ)
accepted_fields blocks = codes "certificate" ∷ codes "accepted" ∷ decimal blocks ∷ []
