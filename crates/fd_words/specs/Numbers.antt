-- The numbers of a command line, as words of decimal digits.
use Rattle.std.specs.Prelude.{ℕ, ◌^◌, ◌&&◌, Bool, List, length, nat_le, nat_lt, if◌then◌else◌, Option, Some, None, option_and_then}
use Rattle.std.specs.List.{list_all}
use Rattle.std.specs.Char.{is_ascii_digit}
use Rattle.std.specs.Str.Parse.{digits_value}

abbrev pub all_digits : List ℕ → Bool
all_digits = list_all is_ascii_digit

-- one digit to so many, and nothing else
abbrev pub are_digits : ℕ → List ℕ → Bool
are_digits most word = nat_lt 0 (length word) && (nat_le (length word) most && all_digits word)

-- a number below 2^64 of at most so many digits, of which the first may be zeros
unfoldable pub value_of : ℕ → List ℕ → Option ℕ
value_of most word = if are_digits most word && nat_lt (digits_value 10 word) (2 ^ 64) then Some (digits_value 10 word) else None

-- a number of a feeder
abbrev pub number_of : List ℕ → Option ℕ
number_of word = value_of 20 word

-- a number of sections: 1 to 79, in one digit or two
abbrev pub within_sections : ℕ → Option ℕ
within_sections n = if nat_le 1 n && nat_le n 79 then Some n else None

abbrev pub sections_of : List ℕ → Option ℕ
sections_of word = option_and_then within_sections (value_of 2 word)
