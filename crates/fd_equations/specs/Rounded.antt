-- The rounded residual and the matrices that a step of the solver works with, and how many summands the Jacobian has.
use Rattle.std.specs.Prelude.{ℕ, ◌+◌, ◌^◌, ℤ, pos, ◌+ℤ◌, ◌*ℤ◌, cond, eqb, List, map, set}
use Rattle.std.specs.List.{range_with_len}
use Rattle.fd_mat.specs.fd_exact.Rounding.{near_div}
use Rattle.fd_mat.specs.fd_exact.Sums.{sum_z, list_z}
use Rattle.fd_mat.specs.fd_exact.States.{part, table}
use Rattle.fd_pattern.specs.fd_system.declared.constants.Constant.{Constant}
use Rattle.fd_pattern.specs.Coefficients.{count_at, linear_entry}
use Rattle.fd_equations.specs.PartLoads.{loads_row, slope_counts, slope_sum, start_sum}
use Rattle.fd_pattern.specs.Views.{NetworkView}

-- f 0, .., f (n - 1)
abbrev pub list_of : {X : Type 0} → ℕ → (ℕ → X) → List X
list_of n f = map f (range_with_len 0 n)

-- the sum of a row's constants
abbrev pub constant_sum : List Constant → ℕ → ℤ
constant_sum cs row = list_z (λ c. cond (eqb c.row row) c.value (pos 0)) cs

-- sums of rows with a constant more
abbrev pub constant_added : List ℤ → Constant → List ℤ
constant_added rows c = set rows c.row (part rows c.row +ℤ c.value)

-- an entry of the coefficient matrix times the unknown of its column, to the nearest
abbrev pub entry_product : (ℕ → ℕ → ℤ) → List ℤ → ℕ → ℕ → ℤ
entry_product at x row col = near_div (at row col *ℤ part x col) (2 ^ 40)

-- the products of the entries of each row, added to what is there
abbrev pub products_added : ℕ → (ℕ → ℕ → ℤ) → List ℤ → List ℤ → List ℤ
products_added size at rows x = list_of size (λ row. part rows row +ℤ sum_z (entry_product at x row) size)

-- a row of the rounded residual: its constants, the products of the row's entries, and what the part loads of constant power and of
-- constant current add, each to the nearest
abbrev pub rounded_row : NetworkView → List ℤ → ℕ → ℤ
rounded_row v x row =
    (constant_sum v.stamp.constants row +ℤ sum_z (entry_product (linear_entry v.stamp.terms) x row) v.size)
    +ℤ loads_row v.stamp.loads x row

-- the sums of the constants, which are the rounded residual at 0
abbrev pub constants_of : NetworkView → List ℤ
constants_of v = list_of v.size (constant_sum v.stamp.constants)

-- the same without the part loads
abbrev pub linear_residual_of : NetworkView → List ℤ → List ℤ
linear_residual_of v x =
    list_of v.size
    (λ row. constant_sum v.stamp.constants row +ℤ sum_z (entry_product (linear_entry v.stamp.terms) x row) v.size)

abbrev pub rounded_residual_of : NetworkView → List ℤ → List ℤ
rounded_residual_of v x = list_of v.size (rounded_row v x)

-- an entry of the matrix of the first inverse: the linear rows, and part loads with their slopes at the start
abbrev pub start_entry : NetworkView → ℕ → ℕ → ℤ
start_entry v row col = linear_entry v.stamp.terms row col +ℤ start_sum v.stamp.loads row col

abbrev pub start_matrix_of : NetworkView → List (List ℤ)
start_matrix_of v = table v.size v.size (start_entry v)

-- an entry of the rounded Jacobian at x: the linear rows, and part loads with their slopes at x
abbrev pub jacobian_entry : NetworkView → List ℤ → ℕ → ℕ → ℤ
jacobian_entry v x row col = linear_entry v.stamp.terms row col +ℤ slope_sum v.stamp.loads x row col

abbrev pub jacobian_of : NetworkView → List ℤ → List (List ℤ)
jacobian_of v x = table v.size v.size (jacobian_entry v x)

-- how many summands of the Jacobian stand in a row and a column: contributions, and slopes of part loads of constant power and of constant
-- current
abbrev pub jacobian_count : NetworkView → ℕ → ℕ → ℕ
jacobian_count v row col = count_at v.stamp.terms row col + slope_counts v.stamp.loads row col
