use Rattle.std.proofs.Common.{◌≡◌, ◌++◌}
use Rattle.fd_certfile.specs.Readings.{zeros}
use Rattle.fd_certfile.proofs.row.push_zeros.Given as goal

abbrev pub invariant-loop-zero : goal.invariant-loop-zero
invariant-loop-zero l = l.cells ≡ l.fn.cells ++ zeros l._zero
