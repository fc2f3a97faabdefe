-- Bytes that are cut at one of them, and the fields of a line behind its word.
use Rattle.std.specs.Prelude.{◌≡◌, ℕ, ℤ, nat_eq, false, List, [], ◌∷◌, All, Option, Some, None, option_map}
use Rattle.std.specs.List.{slice_split}
use Rattle.fd_lines.specs.Numbers.{number_of}
use Rattle.fd_lines.specs.Lines.{is_blank}

-- none of these is that byte
abbrev pub Lacks : ℕ → List ℕ → Type 0
Lacks c bytes = All (λ d. nat_eq d c ≡ false) bytes

-- the fields of a text, whose blanks part them, or of none
abbrev pub texts_of : Option (List ℕ) → List (List ℕ)
texts_of None = []
texts_of (Some text) = slice_split is_blank text

-- the number that the first field spells, and the other fields
abbrev pub first_number : List (List ℕ) → Option (ℤ × List (List ℕ))
first_number [] = None
first_number (text ∷ texts) = option_map (λ z. (z, texts)) (number_of text)

-- ---- so many numbers and no more

abbrev pub one_of : Option (List ℤ) → Option ℤ
one_of (Some (a ∷ [])) = Some a
one_of other = None

abbrev pub two_of : Option (List ℤ) → Option (ℤ × ℤ)
two_of (Some (a ∷ b ∷ [])) = Some (a, b)
two_of other = None

abbrev pub three_of : Option (List ℤ) → Option (ℤ × ℤ × ℤ)
three_of (Some (a ∷ b ∷ c ∷ [])) = Some (a, b, c)
three_of other = None

abbrev pub four_of : Option (List ℤ) → Option (ℤ × ℤ × ℤ × ℤ)
four_of (Some (a ∷ b ∷ c ∷ d ∷ [])) = Some (a, b, c, d)
four_of other = None
