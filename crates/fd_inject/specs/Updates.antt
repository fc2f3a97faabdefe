-- What an inverse in units of 2^-40 gives for a residual.
use Rattle.std.specs.Prelude.{ℕ, ◌^◌, ℤ, neg_ℤ, ◌+ℤ◌, ◌*ℤ◌, List, length, Result, Ok}
use Rattle.fd_equations.specs.fd_exact.Rounding.{near_div}
use Rattle.fd_equations.specs.fd_exact.States.{part}
use Rattle.fd_equations.specs.fd_exact.Sums.{sum_z}
use Rattle.fd_equations.specs.fd_exact.Results.{and_then}
use Rattle.fd_equations.specs.fd_mat.Rows.{row_of}
use Rattle.fd_equations.specs.Rounded.{list_of}
use Rattle.fd_inject.specs.Ranges.{in_range}
use Rattle.fd_inject.specs.declared.fault.SolveFault.{SolveFault}

-- the sum of the products of two lists, place by place
abbrev pub dot : List ℤ → List ℤ → ℤ
dot xs ys = sum_z (λ k. part xs k *ℤ part ys k) (length ys)

-- how much a step with the inverse c changes a part at this residual: the row times the residual, to the nearest, with its sign turned
abbrev pub update_at : List (List ℤ) → List ℤ → ℕ → ℤ
update_at c residual row = neg_ℤ (near_div (dot (row_of c row) residual) (2 ^ 40))

unfoldable pub update_of : List (List ℤ) → List ℤ → List ℤ
update_of c residual = list_of (length c) (update_at c residual)

-- the update at the iterate of this number, if the parts of its residual are at most 2^58 in size
unfoldable pub update_for : List (List ℤ) → ℕ → List ℤ → Result (List ℤ) SolveFault
update_for c step residual = and_then (in_range (2 ^ 58) step residual) (λ r. Ok (update_of c r))

-- an iterate with an update added
unfoldable pub moved : List ℤ → List ℤ → List ℤ
moved x update = list_of (length x) (λ k. part x k +ℤ part update k)
