-- Numbers and names as the fields of a report have them.
use Rattle.std.specs.Prelude.{ℕ, ◌+◌, ◌-◌, ◌*◌, ◌^◌, ◌==◌, ◌&&◌, ◌||◌, nat_le, Bool, not, fold, List, [], ◌∷◌, length, take, drop, Option, Some, None, is_some, if◌then◌else◌, codes}
use Rattle.std.specs.Char.{is_ascii_digit}
use Rattle.std.specs.Cmp.Lexicographic.{pointwise}
use Rattle.std.specs.List.{list_all}
use Rattle.std.specs.Prelude.{nat_eq}
use Rattle.std.specs.Str.{is_utf8}

-- the same bytes
abbrev pub text_eq : List ℕ → List ℕ → Bool
text_eq = pointwise nat_eq

abbrev pub is_whole : List ℕ → Bool
is_whole text = not (length text == 0) && nat_le (length text) 10 && list_all is_ascii_digit text

-- the number that digits spell
abbrev pub value_of : List ℕ → ℕ
value_of digits = fold (λ n c. n * 10 + (c - 48)) 0 digits

-- the whole number that one to ten digits spell
unfoldable pub whole_of : List ℕ → Option ℕ
whole_of text = if is_whole text then Some (value_of text) else None

-- the digits behind a point
abbrev pub behind_point : List ℕ → Option ℕ
behind_point [] = None
behind_point (c ∷ cs) = if c == 46 then whole_of cs else None

-- a whole and decimals, in units of which 10^places are one
abbrev pub joined : ℕ → Option ℕ → Option ℕ → Option ℕ
joined places None decimals = None
joined places (Some whole) None = None
joined places (Some whole) (Some decimals) = Some (whole * 10 ^ places + decimals)

-- the number of units, of which 10^places are one, that a text spells: one to ten digits, a point, and exactly so many digits
unfoldable pub decimal_of : ℕ → List ℕ → Option ℕ
decimal_of places text =
    if nat_le (length text) places then None
    else joined places (whole_of (take (length text - (places + 1)) text)) (behind_point (drop (length text - (places + 1)) text))

abbrev pub is_decimal : ℕ → List ℕ → Bool
is_decimal places text = is_some (decimal_of places text)

-- a text without a minus before it
abbrev pub without_minus : List ℕ → List ℕ
without_minus [] = []
without_minus (c ∷ cs) = if c == 45 then cs else c ∷ cs

-- the same behind a minus or not
abbrev pub is_signed : ℕ → List ℕ → Bool
is_signed places text = is_decimal places (without_minus text)

-- a whole number behind a minus or not
abbrev pub is_steps : List ℕ → Bool
is_steps text = is_some (whole_of (without_minus text))

-- a tap with five decimals, or how a bank stands
abbrev pub is_bank_position : List ℕ → Bool
is_bank_position text = text_eq text (codes "open") || text_eq text (codes "closed")

abbrev pub is_position : List ℕ → Bool
is_position text = is_bank_position text || is_decimal 5 text

abbrev pub is_printed : ℕ → Bool
is_printed c = nat_le 32 c

-- text of one character or more, none of which is a control character below the blank
unfoldable pub is_name : List ℕ → Bool
is_name text = not (length text == 0) && list_all is_printed text && is_utf8 text

-- what stands before the first point, and what behind it
abbrev pub before_dot : List ℕ → List ℕ
before_dot [] = []
before_dot (c ∷ cs) = if c == 46 then [] else c ∷ before_dot cs

abbrev pub behind_dot : List ℕ → List ℕ
behind_dot [] = []
behind_dot (c ∷ cs) = if c == 46 then cs else behind_dot cs
