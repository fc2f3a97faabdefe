-- Words by name, and the names of elements and buses.
use Rattle.std.specs.Prelude.{ℕ, List, [], ◌∷◌, Option, Some, None, if◌then◌else◌, nat_eq, ◌==◌, Bool, ◌&&◌, ◌||◌, nat_lt, length, map, encode_utf8_all}
use Rattle.std.specs.Char.{to_ascii_lowercase, is_ascii_alphanumeric}
use Rattle.std.specs.List.{list_all}
use Rattle.std.specs.Borrow.{Bor}
use Rattle.std.specs.Cmp.Lexicographic.{pointwise}

-- the bytes of a text's characters
abbrev pub bytes : List ℕ → List ℕ
bytes = encode_utf8_all

abbrev pub lower : List ℕ → List ℕ
lower = map to_ascii_lowercase

-- what the first row with this name stands for
abbrev pub named : {T : Type 0} → List (List ℕ × T) → List ℕ → Option T
named [] name = None
named (row ∷ rows) name = if pointwise nat_eq row.0 name then Some row.1 else named rows name

-- a table of the code, by the bytes of its names
abbrev pub rows : {T : Type 0} → List (Bor (List ℕ) × T) → List (List ℕ × T)
rows table = map (λ row. (row.0.now, row.1)) table

-- letters, digits, _, - and %
abbrev pub is_name_character : ℕ → Bool
is_name_character c = is_ascii_alphanumeric c || (c == 95) || (c == 45) || (c == 37)

-- the name of an element or a bus
unfoldable pub is_name : List ℕ → Bool
is_name name = nat_lt 0 (length name) && list_all is_name_character name
