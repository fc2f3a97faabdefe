-- The numbers of a line as text.
use Rattle.std.specs.Prelude.{ℕ, ℤ, List, ◌∷◌, flat_map}
use Rattle.std.specs.Fmt.{signed_decimal}

-- a blank and a number
abbrev pub field_text : ℤ → List ℕ
field_text z = 32 ∷ signed_decimal z

abbrev pub fields_text : List ℤ → List ℕ
fields_text numbers = flat_map field_text numbers
