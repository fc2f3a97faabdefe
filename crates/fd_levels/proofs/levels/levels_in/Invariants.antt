use Rattle.fd_levels.proofs.Rounds.{IsRound}
use Rattle.fd_levels.proofs.levels.levels_in.Given as goal

-- the levels up to that of the round, and the buses of that level
abbrev pub invariant-loop-round : goal.invariant-loop-round
invariant-loop-round l = IsRound l.count l.feeds l.round l.levels.items l.front.items
