-- Lines: a word, and numbers behind one blank each.
use Rattle.std.specs.Prelude.{ℕ, ℤ, ◌==◌, Bool, List, ◌∷◌, map}
use Rattle.std.specs.List.{join_with_byte}
use Rattle.std.specs.Fmt.{signed_decimal}

-- a word, and numbers behind one blank each
abbrev pub text_by : List ℕ → List ℤ → List ℕ
text_by word numbers = join_with_byte 32 (word ∷ map signed_decimal numbers)

abbrev pub is_blank : ℕ → Bool
is_blank c = c == 32

abbrev pub is_feed : ℕ → Bool
is_feed c = c == 10
