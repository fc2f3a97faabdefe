-- Words and rows of numbers within a group.
use Rattle.std.specs.Prelude.{ℕ, ℤ, ◌==◌, Bool, List, [], ◌∷◌, Result}
use Rattle.std.specs.List.{slice_split, flat_map}
use Rattle.dss_lexer.specs.declared.fault.NumberFault.{NumberFault}
use Rattle.dss_lexer.specs.Answers.{each}
use Rattle.dss_lexer.specs.Line.{is_separator}
use Rattle.dss_lexer.specs.Number.{number_of}

-- a part, unless it is empty
abbrev pub word_in : List ℕ → List (List ℕ)
word_in [] = []
word_in (c ∷ cs) = (c ∷ cs) ∷ []

-- the words of a text, which blanks, tabs and commas part
abbrev pub words_of : List ℕ → List (List ℕ)
words_of text = flat_map word_in (slice_split is_separator text)

-- a vertical bar
abbrev pub is_bar : ℕ → Bool
is_bar c = c == 124

abbrev pub row_of : List ℕ → Result (List ℤ) NumberFault
row_of text = each number_of (words_of text)

-- the numbers of each row
abbrev pub matrix_of : List ℕ → Result (List (List ℤ)) NumberFault
matrix_of text = each row_of (slice_split is_bar text)
