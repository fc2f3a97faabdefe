-- Whole numbers as a line has them: no plus sign, no leading zero, and a minus directly before the digits of what
-- isn't 0.
use Rattle.std.specs.Prelude.{ℕ, ℤ, pos, neg_ℤ, ◌^◌, ◌==◌, nat_eq, nat_lt, ◌<◌, ◌&&◌, Bool, List, [], ◌∷◌, Option, Some, None, unsigned_abs, option_map, option_and_then, if◌then◌else◌}
use Rattle.std.specs.Cmp.Lexicographic.{pointwise}
use Rattle.std.specs.Fmt.{signed_decimal}
use Rattle.std.specs.Str.Parse.{digits_value}

-- the same bytes
abbrev pub text_eq : List ℕ → List ℕ → Bool
text_eq = pointwise nat_eq

-- no number of a line is larger in size
abbrev pub IsNumber : ℤ → Type 0
IsNumber z = unsigned_abs z < 2 ^ 127

-- what the digits of a text are worth, behind a minus or not
abbrev pub value_of : List ℕ → ℤ
value_of [] = pos 0
value_of (c ∷ cs) = if c == 45 then neg_ℤ (pos (digits_value 10 cs)) else pos (digits_value 10 (c ∷ cs))

-- the number that a text spells: the text is that number's decimal
unfoldable pub number_of : List ℕ → Option ℤ
number_of text =
    let z = value_of text in
    if text_eq text (signed_decimal z) && nat_lt (unsigned_abs z) (2 ^ 127) then Some z else None

-- the numbers that these texts spell, all of them
abbrev pub numbers_of : List (List ℕ) → Option (List ℤ)
numbers_of [] = Some []
numbers_of (text ∷ texts) = option_and_then (λ z. option_map (λ zs. z ∷ zs) (numbers_of texts)) (number_of text)
