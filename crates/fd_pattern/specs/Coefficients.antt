-- The coefficient matrix of the linear rows: at each place the sum of its contributions, each to the nearest unit of 2^-40.
use Rattle.std.specs.Prelude.{ℕ, ℤ, pos, Bool, ◌&&◌, cond, eqb, List}
use Rattle.fd_load.specs.fd_exact.Sums.{list_z, list_n}
use Rattle.fd_load.specs.fd_arith.declared.terms.Term.{Term}
use Rattle.fd_load.specs.fd_system.Contributions.{term_units}

-- whether a contribution stands in this row and column
abbrev pub stands_at : ℕ → ℕ → Term → Bool
stands_at row col t = eqb t.row row && eqb t.col col

-- the entry of the coefficient matrix
abbrev pub linear_entry : List Term → ℕ → ℕ → ℤ
linear_entry ts row col = list_z (λ t. cond (stands_at row col t) (term_units t) (pos 0)) ts

-- how many contributions stand at a place
abbrev pub count_at : List Term → ℕ → ℕ → ℕ
count_at ts row col = list_n (λ t. cond (stands_at row col t) 1 0) ts

-- how many contributions stand in a row
abbrev pub row_count : List Term → ℕ → ℕ
row_count ts row = list_n (λ t. cond (eqb t.row row) 1 0) ts
