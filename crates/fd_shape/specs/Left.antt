-- The records that a reader of a file in memory has left, and the numbers that are kept of those before. Clauses of
-- private functions alone cite this.
use Rattle.std.specs.Prelude.{◌≡◌, ◌+◌, ℕ, ℤ, List, [], ◌∷◌, ◌++◌, length, nat_lt, Option, Some, None, true, false, if◌then◌else◌}
use denote.Ref.{Bor}
use Rattle.csv.specs.Machine.{ends_at_end}
use Rattle.csv.specs.Reading.{Ready, default_config, is_flexible, reader_config, reader_state, reader_trim, records_from, source_of}
use Rattle.csv.specs.declared.reader.Reader.{Reader}
use Rattle.csv.specs.declared.reader.Trim.TheVariants as trim
use Rattle.csv.specs.declared.parser.State.{State}
use Rattle.fd_shape.specs.Column.{is_unfit}

-- the bytes that a reader has left
abbrev pub bytes_left : Reader (Bor (List ℕ)) → Option (List ℕ)
bytes_left reader = source_of (λ bytes. Some bytes.now) reader

-- the records of bytes, from a state between two records
unfoldable pub records_after : State → List ℕ → List (List (List ℕ))
records_after s ys = records_from default_config (length ys + 1) s ys

abbrev pub records_in : State → Option (List ℕ) → List (List (List ℕ))
records_in s None = []
records_in s (Some ys) = records_after s ys

-- the records that a reader has left
unfoldable pub records_left : Reader (Bor (List ℕ)) → List (List (List ℕ))
records_left reader = records_in (reader_state reader) (bytes_left reader)

-- a reader that stands between two records, and takes records of any length as they are
unfoldable pub IsPlain : Reader (Bor (List ℕ)) → Type 0
IsPlain reader = (reader_trim reader ≡ trim.None) × Ready reader × (is_flexible reader ≡ true) × (reader_config reader ≡ default_config)
    × (ends_at_end (reader_state reader) ≡ false) × (ys : List ℕ) × (bytes_left reader ≡ Some ys)

-- how many numbers may stand before one that is kept
abbrev pub room_for : ℤ → ℕ
room_for value = if is_unfit value then 8761 else 8760

-- the numbers that are kept, with one more where there is room for it
abbrev pub kept : List ℤ → ℤ → List ℤ
kept values value = if nat_lt (length values) (room_for value) then values ++ value ∷ [] else values
