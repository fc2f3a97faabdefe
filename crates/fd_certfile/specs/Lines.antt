-- The lines of a certificate: a word, and numbers behind one blank each.
use Rattle.std.specs.Prelude.{ℕ, ℤ, List, [], ◌∷◌, ◌++◌, flat_map, Option, Some, None, codes, if◌then◌else◌}
use Rattle.std.specs.List.{slice_split, AllByRecursion}
pub use Rattle.fd_lines.specs.Lines.{is_blank, is_feed, text_by}
use Rattle.fd_lines.specs.Numbers.{text_eq, IsNumber, numbers_of}

pub data Line : Type 0 where
  -- the version
  header : ℤ → Line
  -- number, hour, round and size
  solution : ℤ → ℤ → ℤ → ℤ → Line
  -- place, centre, radius and mismatch
  state : ℤ → ℤ → ℤ → ℤ → Line
  -- place, and what a version has of the entries of that row
  row : List ℤ → Line
  -- milliseconds, control and steps
  act : ℤ → ℤ → ℤ → Line
  end : Line
  -- a line of no such form
  other : Line

-- ---- what a line is written as

abbrev pub word_of : Line → List ℕ
word_of (header version) = codes "cert"
word_of (solution number hour round size) = codes "solution"
word_of (state place centre radius mismatch) = codes "x"
word_of (row fields) = codes "c"
word_of (act time control steps) = codes "act"
word_of end = codes "end"
word_of other = []

abbrev pub numbers_in : Line → List ℤ
numbers_in (header version) = version ∷ []
numbers_in (solution number hour round size) = number ∷ hour ∷ round ∷ size ∷ []
numbers_in (state place centre radius mismatch) = place ∷ centre ∷ radius ∷ mismatch ∷ []
numbers_in (row fields) = fields
numbers_in (act time control steps) = time ∷ control ∷ steps ∷ []
numbers_in end = []
numbers_in other = []

-- the text of a line without its line feed
abbrev pub text_of : Line → List ℕ
text_of line = text_by (word_of line) (numbers_in line)

abbrev pub line_bytes : Line → List ℕ
line_bytes line = text_of line ++ 10 ∷ []

abbrev pub bytes_of : List Line → List ℕ
bytes_of lines = flat_map line_bytes lines

-- ---- what a text is read as

abbrev pub header_of : List ℤ → Line
header_of (version ∷ []) = header version
header_of numbers = other

abbrev pub solution_of : List ℤ → Line
solution_of (number ∷ hour ∷ round ∷ size ∷ []) = solution number hour round size
solution_of numbers = other

abbrev pub state_of : List ℤ → Line
state_of (place ∷ centre ∷ radius ∷ mismatch ∷ []) = state place centre radius mismatch
state_of numbers = other

abbrev pub act_of : List ℤ → Line
act_of (time ∷ control ∷ steps ∷ []) = act time control steps
act_of numbers = other

abbrev pub end_of : List ℤ → Line
end_of [] = end
end_of numbers = other

-- a line by its word and its numbers
unfoldable pub line_by : List ℕ → List ℤ → Line
line_by word numbers =
    if text_eq word (codes "cert") then header_of numbers
    else if text_eq word (codes "solution") then solution_of numbers
    else if text_eq word (codes "x") then state_of numbers
    else if text_eq word (codes "c") then row numbers
    else if text_eq word (codes "act") then act_of numbers
    else if text_eq word (codes "end") then end_of numbers
    else other

abbrev pub line_with : List ℕ → Option (List ℤ) → Line
line_with word None = other
line_with word (Some numbers) = line_by word numbers

abbrev pub line_in : List (List ℕ) → Line
line_in [] = other
line_in (word ∷ fields) = line_with word (numbers_of fields)

-- the line of a text without its line feed
unfoldable pub line_of : List ℕ → Line
line_of text = line_in (slice_split is_blank text)

-- what stands behind the last line feed is no line, and out of the grammar
abbrev pub rest_of : List ℕ → List Line
rest_of [] = []
rest_of (c ∷ cs) = other ∷ []

abbrev pub lines_in : List (List ℕ) → List Line
lines_in [] = []
lines_in (last ∷ []) = rest_of last
lines_in (text ∷ next ∷ texts) = line_of text ∷ lines_in (next ∷ texts)

-- the lines of a certificate's bytes
unfoldable pub lines_of : List ℕ → List Line
lines_of bytes = lines_in (slice_split is_feed bytes)

-- ---- what can be written: a line in the grammar, each number of which is one of a certificate

abbrev pub IsKnown : Line → Type 0
IsKnown other = ⊥
IsKnown line = Unit {0}

abbrev pub IsLine : Line → Type 0
IsLine line = IsKnown line × AllByRecursion IsNumber (numbers_in line)
