-- Sums of the columns of a matrix by non-zeros.
use Rattle.std.specs.Prelude.{◌≡◌, ◌≢◌, ℕ, ◌^◌, ◌<◌, ◌≤◌, ℤ, pos, ◌≤ℤ◌, nat_abs, List, length, Option, Some}
use Rattle.fd_enclosure.specs.fd_exact.States.{part}
use Rattle.fd_enclosure.specs.fd_arith.Wide.{wide_product, wide_sum}
use Rattle.fd_enclosure.specs.fd_equations.Amounts.{Amount, AreCells, IsNothingElsewhere, cell_at}
use Rattle.fd_enclosure.specs.fd_equations.Matrices.{MatrixView}
use Rattle.fd_enclosure.specs.fd_equations.declared.cells.Cell.{Cell}
use Rattle.fd_enclosure.specs.Bounds.{wide_sums}
use Rattle.fd_enclosure.specs.Sound.{number_at}

-- a sum with the product of a factor and an entry more; none where the product or the sum passes 2^120
abbrev pub sum_more : ℤ → ℤ → ℤ → Option ℤ
sum_more sum factor entry = wide_sum (Some sum) (wide_product (Some factor) (Some entry))

-- each number is at most 2^120 in size
abbrev pub AreUnits : List ℤ → Type 0
AreUnits xs = (j : ℕ) → nat_abs (part xs j) ≤ 2 ^ 120

-- the cells of a row of `width` columns: the columns rise
pub record AreColumns (width : ℕ) (cells : List Cell) : Type 0 where
  pub inside : (k : ℕ) → k < length cells → (cell_at cells k).col < width
  pub rising : (i j : ℕ) → i < j → j < length cells → (cell_at cells i).col < (cell_at cells j).col

-- they have these entries, which are 0 where no cell stands
pub record IsRow (cells : List Cell) (at : ℕ → ℤ) : Type 0 where
  pub each : (k : ℕ) → k < length cells → (cell_at cells k).units ≡ at (cell_at cells k).col
  pub all : (col : ℕ) → ((k : ℕ) → k < length cells → (cell_at cells k).col ≢ col) → at col ≡ pos 0

-- a matrix has these entries
pub record HasEntries (m : MatrixView) (J : ℕ → ℕ → ℤ) : Type 0 where
  pub at : ℕ × ℕ → Amount
  pub cells : AreCells m.places m.cells at
  pub nothing : IsNothingElsewhere m.places at
  pub entries : (row col : ℕ) → (at (row, col)).units ≡ J row col

-- it has some
pub record IsMade (m : MatrixView) : Type 0 where
  pub long : length m.cells ≡ length m.places
  pub J : ℕ → ℕ → ℤ
  pub has : HasEntries m J

-- the products of factors by row with the entries of column j, added up over n rows
abbrev pub column_sum : (ℕ → ℤ) → (ℕ → ℕ → ℤ) → ℕ → ℕ → Option ℤ
column_sum factor J j n = wide_sums (λ l. wide_product (Some (factor l)) (Some (J l j))) n

-- a weight for each of n unknowns, from 10^6 to 2^66
pub record AreWeights (n : ℕ) (ws : List ℤ) : Type 0 where
  pub long : length ws ≡ n
  pub least : (i : ℕ) → i < n → pos (10 ^ 6) ≤ℤ part ws i
  pub most : (i : ℕ) → i < n → part ws i ≤ℤ pos (2 ^ 66)

-- the weights of n unknowns
abbrev pub HasWeights : ℕ → List ℤ → (ℕ → ℕ) → Type 0
HasWeights n ws w = (i : ℕ) → i < n → part ws i ≡ pos (w i)

-- the first n numbers of a list
abbrev pub HasNumbers : ℕ → List ℕ → (ℕ → ℕ) → Type 0
HasNumbers n xs f = (i : ℕ) → i < n → number_at xs i ≡ f i

-- a row of an inverse of n unknowns: its entries are at most 2^56 in size
pub record IsRowOfInverse (n : ℕ) (row : List ℤ) : Type 0 where
  pub long : length row ≡ n
  pub small : (l : ℕ) → l < n → nat_abs (part row l) ≤ 2 ^ 56
