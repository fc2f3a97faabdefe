-- The number that a text spells, in units of 10^-9.
use Rattle.std.specs.Prelude.{ℕ, ℤ, pos, ◌+◌, ◌-◌, ◌*◌, ◌^◌, ◌==◌, nat_lt, nat_le, Bool, false, ◌&&◌, ◌||◌, List, [], ◌∷◌, ◌++◌, length, fold, Option, Some, None, Result, Ok, Err, if◌then◌else◌}
use Rattle.std.specs.Char.{is_ascii_digit}
use Rattle.std.specs.Int.RustNames.{unsigned_abs}
use Rattle.std.specs.List.{list_all, position_or_len, before_first, after_first}
use Rattle.dss_lexer.specs.declared.numbers.Shift.{Shift}
use Rattle.dss_lexer.specs.declared.fault.NumberFault.{NumberFault}
use Rattle.dss_lexer.specs.declared.fault.NumberFault.TheVariants.{BadNumber, NumberTooLarge}
use Rattle.fd_exact.specs.Rounding.{near_div, with_sign}

abbrev pub is_plus : ℕ → Bool
is_plus c = c == 43

abbrev pub is_minus : ℕ → Bool
is_minus c = c == 45

abbrev pub is_point : ℕ → Bool
is_point c = c == 46

-- e or E
abbrev pub is_exponent_mark : ℕ → Bool
is_exponent_mark c = (c == 101) || (c == 69)

abbrev pub is_negative : List ℕ → Bool
is_negative [] = false
is_negative (c ∷ cs) = is_minus c

-- a text without the sign in front of it
abbrev pub unsigned : List ℕ → List ℕ
unsigned [] = []
unsigned (c ∷ cs) = if is_plus c || is_minus c then cs else c ∷ cs

abbrev pub are_digits : List ℕ → Bool
are_digits = list_all is_ascii_digit

-- the value of digits
abbrev pub value : List ℕ → ℕ
value digits = fold (λ n c. n * 10 + (c - 48)) 0 digits

-- a whole exponent of one or two digits, which may have a sign
abbrev pub exponent_of : List ℕ → Option Shift
exponent_of text = let digits = unsigned text in
    if are_digits digits && (nat_lt 0 (length digits) && nat_le (length digits) 2)
    then (if is_negative text then Some (record { right = 0; left = value digits }) else Some (record { right = value digits; left = 0 }))
    else None

-- the exponent after its mark, or none
abbrev pub shift_of : List ℕ → Option Shift
shift_of text =
    if nat_lt (position_or_len is_exponent_mark text) (length text)
    then exponent_of (after_first is_exponent_mark text)
    else Some (record { right = 0; left = 0 })

-- the digits round a point, of which there is one at least
abbrev pub are_mantissa : List ℕ → List ℕ → Bool
are_mantissa whole decimals = are_digits whole && (are_digits decimals && nat_lt 0 (length whole + length decimals))

-- so many units of 10^-9 the digits and the exponent make, to the nearest
abbrev pub units : List ℕ → List ℕ → Shift → ℤ
units whole decimals shift = near_div (pos (value (whole ++ decimals) * 10 ^ (shift.right + 9))) (10 ^ (shift.left + length decimals))

-- a number, already rounded, is below 10^9 in size
abbrev pub within_limit : ℤ → Result ℤ NumberFault
within_limit z = if nat_lt (unsigned_abs z) 1_000_000_000_000_000_000 then Ok z else Err NumberTooLarge

abbrev pub number_from : Bool → List ℕ → List ℕ → Option Shift → Result ℤ NumberFault
number_from negative whole decimals None = Err BadNumber
number_from negative whole decimals (Some shift) =
    if are_mantissa whole decimals then within_limit (with_sign negative (units whole decimals shift))
    else Err BadNumber

-- a sign, digits with at most one point, and an exponent
unfoldable pub number_of : List ℕ → Result ℤ NumberFault
number_of text = let mantissa = before_first is_exponent_mark (unsigned text) in
    number_from (is_negative text) (before_first is_point mantissa) (after_first is_point mantissa) (shift_of (unsigned text))
