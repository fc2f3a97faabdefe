-- Rows of a matrix by their entries that aren't 0.
use Rattle.std.specs.Prelude.{ℕ, ◌^◌, ◌≤◌, ℤ, nat_abs, nat_lt, Bool, not, eqb, List}
use Rattle.fd_bounds.specs.fd_triangles.Rows.{IsRowOf}
use Rattle.fd_bounds.specs.fd_derived.Rows.{entries_of}
use Rattle.fd_bounds.specs.fd_derived.Sums.{size_of}
use Rattle.fd_bounds.specs.fd_derived.declared.entries.Entry.{Entry}
use Rattle.fd_cert.specs.fd_enclosure.fd_exact.Sums.{list_n, sum_n}
use Rattle.fd_cert.specs.fd_enclosure.fd_equations.declared.cells.Cell.{Cell}

-- the sizes of the first n numbers of a row together
abbrev pub row_size : ℕ → (ℕ → ℤ) → ℕ
row_size n f = sum_n (λ j. nat_abs (f j)) n

-- they are past 2^62: there is no list of its entries
abbrev pub is_wide : ℕ → (ℕ → ℤ) → Bool
is_wide n f = nat_lt (2 ^ 62) (row_size n f)

-- the entries of a row of n numbers that aren't 0, in rising places, with sizes of 2^62 together at most
pub record AreEntriesOf (n : ℕ) (f : ℕ → ℤ) (row : List Entry) : Type 0 where
  pub is_row : IsRowOf n f row
  pub small : size_of (entries_of row) ≤ 2 ^ 62

-- ---- of cells

-- a cell has units
abbrev pub has_units : Cell → Bool
has_units c = not (eqb (nat_abs c.units) 0)

abbrev pub entry_in : Cell → Entry
entry_in c = record { place = c.col; units = c.units }

-- the sizes of cells together
abbrev pub size_in : List Cell → ℕ
size_in cells = list_n (λ c. nat_abs c.units) cells
