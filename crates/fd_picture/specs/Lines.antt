-- The lines of a report, as bytes without their line feeds.
use Rattle.std.specs.Prelude.{ℕ, ◌+◌, ◌==◌, ◌&&◌, ◌||◌, Bool, false, not, List, [], ◌∷◌, length, Option, Some, None, if◌then◌else◌}
use Rattle.std.specs.List.{list_any, onto_first}

-- whether what stands behind a byte is within double quotes
abbrev pub is_quoted_after : ℕ → Bool → Bool
is_quoted_after c quoted = if c == 34 then not quoted else quoted

-- the lines of bytes that begin within double quotes, or not: a line feed ends a line but within double quotes
abbrev pub lines_from : Bool → List ℕ → List (List ℕ)
lines_from quoted [] = []
lines_from quoted (c ∷ cs) = if (c == 10) && not quoted then [] ∷ lines_from false cs else onto_first c (lines_from (is_quoted_after c quoted) cs)

-- the lines of a report. Behind the last line feed stands a line only where bytes stand
unfoldable pub lines_of : List ℕ → List (List ℕ)
lines_of bytes = lines_from false bytes

-- a line that can't be one record: it is empty, or a carriage return stands in it
abbrev pub is_unfit : List ℕ → Bool
is_unfit line = (length line == 0) || list_any (λ c. c == 13) line

-- the number of the first line that is unfit, counted from this number on
abbrev pub first_unfit : ℕ → List (List ℕ) → Option ℕ
first_unfit n [] = None
first_unfit n (line ∷ lines) = if is_unfit line then Some n else first_unfit (n + 1) lines

-- the number of the first line of a report that can't be one record
unfoldable pub unfit_in : List ℕ → Option ℕ
unfit_in bytes = first_unfit 1 (lines_of bytes)

abbrev pub is_at : Option ℕ → ℕ → Bool
is_at None n = false
is_at (Some m) n = m == n
