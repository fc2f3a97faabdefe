-- The fields of a record.
use Rattle.std.specs.Prelude.{ℕ, List, [], ◌∷◌, unwrap_or}
use Rattle.std.specs.List.{flat_map}
use Rattle.csv.specs.Records.{field_at}

-- the field at a place, counted from 0, and nothing behind the last
abbrev pub at : List (List ℕ) → ℕ → List ℕ
at fields i = unwrap_or (field_at fields i) []

-- fields as text, with a blank before each
abbrev pub spaced : List (List ℕ) → List ℕ
spaced fields = flat_map (λ field. 32 ∷ field) fields
