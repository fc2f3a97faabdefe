use Rattle.std.proofs.Common.{◌≡◌, ℕ, ◌+ℤ◌, take}
use Rattle.fd_mat.specs.fd_exact.States.{part}
use Rattle.fd_equations.specs.PartLoads.{loads_row}
use Rattle.fd_equations.proofs.load_rows.add_loads.Given as goal

abbrev pub invariant-loop-load : goal.invariant-loop-load
invariant-loop-load l = (row : ℕ) → part l.rows row ≡ part l.initial.rows row +ℤ loads_row (take l.load-index l.loads) l.x row
