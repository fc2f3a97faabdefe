use Rattle.std.proofs.Common.{◌≡◌, ℕ, take}
use Rattle.fd_equations.specs.PartLoads.{slope_counts}
use Rattle.fd_equations.proofs.exchange.stand_alike.Given as goal

abbrev pub invariant-loop-k : goal.invariant-loop-k
invariant-loop-k l = (row col : ℕ) → slope_counts (take l.k l.old) row col ≡ slope_counts (take l.k l.new) row col
