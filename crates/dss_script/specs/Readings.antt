-- Files that are being read.
use Rattle.std.specs.Prelude.{ℕ, ◌+◌, List, [], ◌∷◌}

-- a file that is being read: how many of its lines were taken, and those that are left
pub record Reading : Type 0 where
  pub file : List ℕ
  pub line : ℕ
  pub lines : List (List ℕ)

abbrev pub first_of : List (List ℕ) → List ℕ
first_of [] = []
first_of (line ∷ rest) = line

abbrev pub rest_of : List (List ℕ) → List (List ℕ)
rest_of [] = []
rest_of (line ∷ rest) = rest

abbrev pub next_line : Reading → List ℕ
next_line r = first_of r.lines

-- the file after its next line
abbrev pub advanced : Reading → Reading
advanced r = record { file = r.file; line = r.line + 1; lines = rest_of r.lines }
