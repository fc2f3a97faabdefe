use Rattle.std.proofs.Common.{◌-◌}
use Rattle.fd_source.specs.Powers.{IsBracket}
use Rattle.fd_source.proofs.resistance.greatest_resistance.Given as goal

abbrev pub invariant-loop-low : goal.invariant-loop-low
invariant-loop-low l = IsBracket l.limit.r l.limit.x l.limit.ratio l.limit.size l.low l.high

abbrev pub decreases-loop-low : goal.decreases-loop-low
decreases-loop-low l = l.high - l.low
