-- The numbers of a load shape's file: the first fields of its records.
use Rattle.std.specs.Prelude.{ℕ, ℤ, pos, ◌+◌, int_lt, Bool, ◌||◌, List, [], ◌∷◌, ◌++◌, take, drop, filter, reverse, Option, Some, None, Result, Ok, Err, if◌then◌else◌}
use Rattle.std.specs.Result.{result_ok}
use Rattle.std.specs.Str.{chars, is_utf8}
use Rattle.csv.specs.Reading.{default_config, records, strip_bom}
use Rattle.dss_lexer.specs.fd_exact.Answers as answers
use Rattle.dss_lexer.specs.Answers.{◌>>=◌}
use Rattle.dss_lexer.specs.Line.{skip_blanks}
use Rattle.dss_lexer.specs.Number.{number_of}
use Rattle.fd_shape.specs.declared.fault.ShapeFault.{ShapeFault}
use Rattle.fd_shape.specs.declared.fault.ShapeFault.TheVariants as fault

-- a text without the blanks and tabs at its end
abbrev pub without_last_blanks : List ℕ → List ℕ
without_last_blanks text = reverse (skip_blanks (reverse text))

-- the number, in units of 10^-9, that the bytes of a text spell
abbrev pub number_in : List ℕ → Option ℤ
number_in text = if is_utf8 text then result_ok (number_of (chars text)) else None

-- the number that a record begins with, blanks and tabs round its first field aside
abbrev pub first_number : List (List ℕ) → Option ℤ
first_number [] = None
first_number (field ∷ fields) = number_in (without_last_blanks (skip_blanks field))

-- the numbers that records begin with, or the number of the first record that begins with none; they are numbered
-- from this number on
abbrev pub column_from : ℕ → List (List (List ℕ)) → Result (List ℤ) ℕ
column_from n [] = Ok []
column_from n (row ∷ rows) = elim (first_number row) [
  | None ↦ Err n
  | Some value ↦ column_from (n + 1) rows >>= λ values. Ok (value ∷ values)
]

-- no factor of a load shape, which is from 0 to 1,000
abbrev pub is_unfit : ℤ → Bool
is_unfit value = int_lt value (pos 0) || int_lt (pos 1_000_000_000_000) value

-- the numbers that count: as many as a load shape has at most, 8,760, and behind them the first that is no factor, for
-- which the shape is refused
abbrev pub counted : List ℤ → List ℤ
counted values = take 8760 values ++ take 1 (filter is_unfit (drop 8760 values))

-- the numbers of a file that count. Its records are those of `csv`: fields parted by commas, and no header row,
-- byte-order mark or empty line among them
unfoldable pub column_of : List ℕ → Result (List ℤ) ℕ
column_of bytes = column_from 1 (records default_config (strip_bom bytes)) >>= λ values. Ok (counted values)

-- the number of the record at fault, unless memory ran out
abbrev pub fault_of : ShapeFault → Option ℕ
fault_of (fault.BadValue number) = Some number
fault_of fault.NoMemory = None

abbrev pub Fails : ShapeFault → Result (List ℤ) ℕ → Type 0
Fails = answers.Fails fault_of
