-- Square matrices, written whole or as a lower triangle.
use Rattle.std.specs.Prelude.{ℕ, zero, suc, ℤ, pos, ◌+◌, ◌==◌, max, min, List, [], ◌∷◌, ◌++◌, length, get_or, Bool, true, ◌&&◌, Result, Ok, Err, if◌then◌else◌}
use Rattle.std.specs.List.{list_all}
use Rattle.dss_model.specs.dss_lexer.declared.pair.Pair.{Pair}
use Rattle.dss_model.specs.dss_lexer.Arrays.{matrix_of}
use Rattle.dss_model.specs.declared.fault.ModelFault.{ModelFault}
use Rattle.dss_model.specs.declared.fault.ModelFault.TheVariants as fault
use Rattle.dss_model.specs.Answers.{◌>>=◌}
use Rattle.dss_model.specs.Causes.{from_lexer}
use Rattle.dss_values.specs.Forms.{is_within}

-- each row has as many cells as there are rows
abbrev pub is_square : List (List ℤ) → Bool
is_square rows = list_all (λ row. length row == length rows) rows

-- the first row has one cell more than n, and each further row one more than the row before
abbrev pub is_triangle_from : ℕ → List (List ℤ) → Bool
is_triangle_from n [] = true
is_triangle_from n (row ∷ rows) = (length row == n + 1) && is_triangle_from (n + 1) rows

-- the cell in row i and column j
abbrev pub cell : List (List ℤ) → ℕ → ℕ → ℤ
cell rows i j = get_or (get_or rows i []) j (pos 0)

-- the cell of a symmetric matrix, which the row of the greater number has
unfoldable pub mirrored : List (List ℤ) → ℕ → ℕ → ℤ
mirrored rows i j = cell rows (max i j) (min i j)

-- f 0, f 1 and so on, n of them
abbrev pub first_of : (ℕ → ℤ) → ℕ → List ℤ
first_of f zero = []
first_of f (suc n) = first_of f n ++ f n ∷ []

-- row 0, row 1 and so on, n of them, one behind the other
abbrev pub row_by_row : (ℕ → List ℤ) → ℕ → List ℤ
row_by_row row zero = []
row_by_row row (suc n) = row_by_row row n ++ row n

-- all rows, one behind the other
abbrev pub joined : List (List ℤ) → List ℤ
joined [] = []
joined (row ∷ rows) = row ++ joined rows

-- the whole symmetric matrix of a lower triangle
abbrev pub symmetric : List (List ℤ) → List ℤ
symmetric rows = row_by_row (λ i. first_of (mirrored rows i) (length rows)) (length rows)

-- a whole square matrix, row by row
unfoldable pub whole_matrix : List (List ℤ) → Result (List ℤ) ModelFault
whole_matrix rows =
    if is_square rows then Ok (joined rows)
    else if is_triangle_from 0 rows then Ok (symmetric rows)
    else Err fault.WrongCount

abbrev pub rows_within : ℤ → ℤ → List (List ℤ) → Result (List (List ℤ)) ModelFault
rows_within low high rows = if list_all (list_all (is_within low high)) rows then Ok rows else Err fault.OutOfRange

-- first each text is read, then each range is tested, then the rows are counted
unfoldable pub matrix_between : ℤ → ℤ → Pair → Result (List ℤ) ModelFault
matrix_between low high pair =
    if pair.grouped
    then (from_lexer (matrix_of pair.value) >>= rows_within low high >>= whole_matrix)
    else Err fault.BadValue
