-- Numbers with a fixed count of decimals. A text is a list of bytes.
use Rattle.std.specs.Prelude.{ℕ, zero, suc, ℤ, pos, negsuc, ◌+◌, ◌/◌, ◌%◌, ◌^◌, List, [], ◌∷◌, ◌++◌, unsigned_abs, codes}
use Rattle.std.specs.Fmt.{decimal}

abbrev pub sign : ℤ → List ℕ
sign (pos n) = []
sign (negsuc n) = codes "-"

-- the last decimal digits of n, so many
abbrev pub last_digits : ℕ → ℕ → List ℕ
last_digits zero n = []
last_digits (suc places) n = (48 + n / 10 ^ places % 10) ∷ last_digits places n

-- so many units, of which 10^places are one: the whole, and the rest in so many decimals
unfoldable pub fixed_text : ℕ → ℕ → List ℕ
fixed_text places n = decimal (n / 10 ^ places) ++ 46 ∷ last_digits places (n % 10 ^ places)

-- the same of a number of units, with a minus before what isn't zero alone
unfoldable pub signed_text : ℕ → ℤ → List ℕ
signed_text places n = sign n ++ fixed_text places (unsigned_abs n)

-- so many micro-units: six decimals
abbrev pub size_text : ℕ → List ℕ
size_text size = fixed_text 6 size

-- a number of micro-units: six decimals
abbrev pub micro_text : ℤ → List ℕ
micro_text value = signed_text 6 value

-- a number of nano-units: nine decimals
abbrev pub nano_text : ℤ → List ℕ
nano_text value = signed_text 9 value
