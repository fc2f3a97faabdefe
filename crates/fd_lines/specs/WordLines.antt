-- Lines by their word and their numbers, as bytes and read from bytes.
use Rattle.std.specs.Prelude.{ℕ, ℤ, ◌<◌, List, [], ◌∷◌, ◌++◌, flat_map, option_map, Option, Some, None, if◌then◌else◌}
use Rattle.std.specs.List.{slice_split, AllByRecursion}
use Rattle.fd_lines.specs.Numbers.{IsNumber, numbers_of, text_eq}
use Rattle.fd_lines.specs.Cuts.{texts_of}
use Rattle.fd_lines.specs.Lines.{is_blank, is_feed, text_by}
use Rattle.fd_lines.specs.declared.line.Line.{Line as Read}

pub data Line : Type 0 where
  -- a word and numbers
  line : List ℕ → List ℤ → Line
  -- what has another form
  other : Line

-- ---- what a line is written as

abbrev pub line_bytes : Line → List ℕ
line_bytes (line word numbers) = text_by word numbers ++ 10 ∷ []
line_bytes other = []

abbrev pub bytes_of : List Line → List ℕ
bytes_of lines = flat_map line_bytes lines

-- a word without blanks and line feeds
abbrev pub IsWord : List ℕ → Type 0
IsWord word = AllByRecursion (λ c. 32 < c) word

-- a line that can be written
abbrev pub IsLine : Line → Type 0
IsLine (line word numbers) = IsWord word × AllByRecursion IsNumber numbers
IsLine other = ⊥

-- ---- what a text is read as

abbrev pub line_with : List ℕ → Option (List ℤ) → Line
line_with word None = other
line_with word (Some numbers) = line word numbers

abbrev pub line_in : List (List ℕ) → Line
line_in [] = other
line_in (word ∷ fields) = line_with word (numbers_of fields)

-- the line of a text without its line feed
unfoldable pub line_of : List ℕ → Line
line_of text = line_in (slice_split is_blank text)

-- what stands behind the last line feed is no line
abbrev pub rest_of : List ℕ → List Line
rest_of [] = []
rest_of (c ∷ cs) = other ∷ []

abbrev pub lines_in : List (List ℕ) → List Line
lines_in [] = []
lines_in (last ∷ []) = rest_of last
lines_in (text ∷ next ∷ texts) = line_of text ∷ lines_in (next ∷ texts)

-- the lines of bytes
unfoldable pub lines_of : List ℕ → List Line
lines_of bytes = lines_in (slice_split is_feed bytes)

-- the numbers behind this word
abbrev pub numbers_by : List ℕ → Line → Option (List ℤ)
numbers_by word (line found numbers) = if text_eq found word then Some numbers else None
numbers_by word other = None

-- ---- what the definitions see of the code's lines

-- the numbers that fields spell, all of them
abbrev pub numbers_in : Option (List ℕ) → Option (List ℤ)
numbers_in fields = numbers_of (texts_of fields)

abbrev pub view : Read → Line
view l = line_with l.word.now (numbers_in (option_map (λ t. t.now) l.fields))
