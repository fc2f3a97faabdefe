use Rattle.std.proofs.Common.{◌≡◌, take}
use Rattle.std.specs.List.{fold}
use Rattle.fd_pattern.specs.fd_system.Residual.{constant_added}
use Rattle.fd_equations.proofs.rows.add_constants.Given as goal

abbrev pub invariant-loop-constant : goal.invariant-loop-constant
invariant-loop-constant l = l.rows ≡ fold constant_added l.initial.rows (take l.constant-index l.constants)
