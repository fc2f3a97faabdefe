-- A matrix by rows of non-zeros.
use Rattle.std.specs.Prelude.{◌≡◌, ℕ, ◌<◌, ◌^◌, ℤ, pos, List}
use Rattle.std.specs.List.{Contains}
use Rattle.fd_mat.specs.fd_exact.States.{table}
use Rattle.fd_equations.specs.declared.cells.Cell.{Cell}
use Rattle.fd_equations.specs.Amounts.{Amount, AreCells, HaveSlopeRoom, IsNothingElsewhere, amount, cell_at, of_both}
use Rattle.fd_pattern.specs.Patterns.{IsSlot, PatternView}
use Rattle.fd_pattern.specs.Coefficients.{count_at}
use Rattle.fd_equations.specs.PartLoads.{slope_counts, start_slopes}
use Rattle.fd_equations.specs.Rounded.{jacobian_entry}
use Rattle.fd_pattern.specs.Views.{NetworkView}

-- how many rows and columns it has, the places at which something can stand, by row and then by column, and a cell for each
pub record MatrixView : Type 0 where
  pub size : ℕ
  pub places : List (ℕ × ℕ)
  pub cells : List Cell

abbrev pub matrix_with : PatternView → List Cell → MatrixView
matrix_with p cells = record { size = p.size; places = p.places; cells = cells }

-- it has n rows and columns, at each place this amount and elsewhere nothing; an entry is at most 2^100 units in size
pub record IsMatrix (n : ℕ) (m : MatrixView) (at : ℕ × ℕ → Amount) : Type 0 where
  pub size : m.size ≡ n
  pub cells : AreCells m.places m.cells at
  pub nothing : IsNothingElsewhere m.places at
  pub small : HaveSlopeRoom m.places m.cells (2 ^ 100) (2 ^ 27)

-- the Jacobian of a network at the point x: its entry, the contributions and the slopes of part loads in it
abbrev pub jacobian_amount : NetworkView → List ℤ → ℕ × ℕ → Amount
jacobian_amount v x p =
    amount (jacobian_entry v x p.0 p.1) (count_at v.stamp.terms p.0 p.1) (slope_counts v.stamp.loads p.0 p.1)

-- the matrix of which the first inverse is made
abbrev pub start_amount : NetworkView → ℕ × ℕ → Amount
start_amount v = of_both v.stamp.terms (λ u. start_slopes u.load) v.stamp.loads

-- ---- steps

-- a list of n rows has the units of the cells at these places, and 0 elsewhere
pub record ArePut (n : ℕ) (ps : List (ℕ × ℕ)) (cells : List Cell) (rows : List (List ℤ)) : Type 0 where
  pub at : ℕ → ℕ → ℤ
  pub rows_are : rows ≡ table n n at
  pub here : (row col k : ℕ) → row < n → col < n → IsSlot ps row col k → at row col ≡ (cell_at cells k).units
  pub none : (row col : ℕ) → row < n → col < n → ¬ (Contains ps (row, col)) → at row col ≡ pos 0
