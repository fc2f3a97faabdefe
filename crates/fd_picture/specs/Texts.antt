-- Pieces of text. A text is a list of bytes.
use Rattle.std.specs.Prelude.{ℕ, ◌+◌, ◌==◌, nat_lt, List, [], ◌∷◌, ◌++◌, if◌then◌else◌, codes, decimal}
use Rattle.std.specs.List.{flat_map}

-- a blank, a name, and a number in quotes
unfoldable pub attribute : List ℕ → ℕ → List ℕ
attribute name n = codes " " ++ name ++ codes "='" ++ decimal n ++ codes "'"

-- a whole number between two pieces
unfoldable pub between : List ℕ → ℕ → List ℕ → List ℕ
between before n after = before ++ decimal n ++ after

-- what stands for a byte within the text of an element: marks of the language are written out, a control character is a blank
abbrev pub escape : ℕ → List ℕ
escape byte =
    if byte == 38 then codes "&amp;"
    else if byte == 60 then codes "&lt;"
    else if byte == 62 then codes "&gt;"
    else if nat_lt byte 32 then codes " "
    else byte ∷ []

abbrev pub escaped : List ℕ → List ℕ
escaped bytes = flat_map escape bytes

-- the texts of things in order, each by its place, which are counted from this place on
abbrev pub numbered : {A : Type 0} → (ℕ → A → List ℕ) → ℕ → List A → List ℕ
numbered text place [] = []
numbered text place (x ∷ xs) = text place x ++ numbered text (place + 1) xs
