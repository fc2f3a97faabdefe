-- A walk over the cells of a row, and the walk over all its columns that it stands for.
use Rattle.std.specs.Prelude.{◌≡◌, ℕ, zero, suc, ◌+◌, ℤ, pos, List}
use Rattle.std.specs.List.{fold}
use Rattle.fd_mat.specs.fd_exact.Sums.{list_n, list_z, sum_n, sum_z}
use Rattle.fd_equations.specs.declared.cells.Cell.{Cell}
use Rattle.fd_equations.specs.Amounts.{Amount, IsRowOf, amount}

abbrev pub amount_in : Cell → Amount
amount_in c = amount c.units c.count c.slopes

-- over the cells
abbrev pub walk : {X : Type 0} → (X → ℕ → Amount → X) → X → List Cell → X
walk step x cells = fold (λ a c. step a c.col (amount_in c)) x cells

-- over m columns from lo on
abbrev pub run : {X : Type 0} → (X → ℕ → Amount → X) → (ℕ → Amount) → X → ℕ → ℕ → X
run step at x lo zero = x
run step at x lo (suc m) = run step at (step x lo (at lo)) (suc lo) m

-- where an entry of 0 adds nothing, a sum over the cells of a row is the sum over all its columns
abbrev pub WalkLaw : Type 0
WalkLaw = (size : ℕ) (at : ℕ × ℕ → Amount) (row : ℕ) (cells : List Cell) (f : ℕ → ℤ → ℤ) → IsRowOf size at row cells
    → ((col : ℕ) → f col (pos 0) ≡ pos 0) → list_z (λ c. f c.col c.units) cells ≡ sum_z (λ col. f col (at (row, col)).units) size

-- the same of what is made of the numbers of contributions and slopes
abbrev pub CountLaw : Type 0
CountLaw = (size : ℕ) (at : ℕ × ℕ → Amount) (row : ℕ) (cells : List Cell) (f : ℕ → ℕ → ℕ) → IsRowOf size at row cells
    → ((col : ℕ) → f col 0 ≡ 0) → list_n (λ c. f c.col (c.count + c.slopes)) cells ≡ sum_n (λ col. f col ((at (row, col)).count + (at (row, col)).slopes)) size
