-- Short entries of a matrix, in a list with their rows and columns.
use Rattle.std.specs.Prelude.{◌≡◌, ℕ, ◌^◌, ◌<◌, ◌≤◌, ℤ, pos, ◌*ℤ◌, nat_abs, Bool, not, cond, eqb, List, length, All}
use Rattle.fd_enclosure.specs.fd_exact.Sums.{list_z, sum_z}
use Rattle.fd_enclosure.specs.fd_equations.Amounts.{cell_at}
use Rattle.fd_enclosure.specs.fd_equations.Matrices.{MatrixView}
use Rattle.fd_enclosure.specs.fd_equations.declared.cells.Cell.{Cell}
use Rattle.fd_cert.specs.Columns.{HasEntries}
use Rattle.fd_cert.specs.declared.flat.Entry.{Entry}

abbrev pub entry_of : ℕ → Cell → Entry
entry_of row c = record { row = row; col = c.col; units = c.units }

-- whether a cell has units: one without adds nothing to any sum
abbrev pub has_units : Cell → Bool
has_units c = not (eqb (nat_abs c.units) 0)

-- what an entry adds to the sum of column j, with a factor for each row
abbrev pub entry_term : (ℕ → ℤ) → ℕ → Entry → ℤ
entry_term factor j e = cond (eqb e.col j) (factor e.row *ℤ e.units) (pos 0)

-- the first n cells have at most 2^48 units
abbrev pub HasSmallUnits : List Cell → ℕ → Type 0
HasSmallUnits cells n = (k : ℕ) → k < n → nat_abs (cell_at cells k).units ≤ 2 ^ 48

-- an entry of n rows and columns, at most 2^48 in size
pub record IsShort (n : ℕ) (e : Entry) : Type 0 where
  pub row : e.row < n
  pub col : e.col < n
  pub small : nat_abs e.units ≤ 2 ^ 48

pub record AreShort (n : ℕ) (es : List Entry) : Type 0 where
  pub each : All (IsShort n) es
  pub few : length es ≤ 2 ^ 22

-- the entries of the first rows of a matrix
pub record IsFlat (m : MatrixView) (es : List Entry) (rows : ℕ) : Type 0 where
  pub each : All (IsShort m.size) es
  pub sums : (J : ℕ → ℕ → ℤ) → HasEntries m J → (factor : ℕ → ℤ) (j : ℕ) → j < m.size
      → list_z (entry_term factor j) es ≡ sum_z (λ l. factor l *ℤ J l j) rows
  pub small : (J : ℕ → ℕ → ℤ) → HasEntries m J → (l j : ℕ) → l < rows → nat_abs (J l j) ≤ 2 ^ 48

-- those of all its rows, at most 2^22
pub record IsFlatOf (m : MatrixView) (es : List Entry) : Type 0 where
  pub flat : IsFlat m es m.size
  pub few : length es ≤ 2 ^ 22
