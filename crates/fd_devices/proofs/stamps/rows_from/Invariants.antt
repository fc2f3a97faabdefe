use Rattle.std.proofs.Common.{◌≡◌, ◌+◌, ◌++◌, drop}
use Rattle.fd_elements.specs.fd_source.Equations.{constants_from}
use Rattle.fd_devices.proofs.stamps.rows_from.Given as goal

abbrev pub invariant-loop-k : goal.invariant-loop-k
invariant-loop-k l = l.rows.items ++ constants_from (l.first + l.k) (drop l.k l.values) ≡ constants_from l.first l.values
