use Rattle.std.proofs.Common.{◌≡◌, ◌+◌, drop, map}
use Rattle.fd_check.specs.Comparing.{acts_claimed, first_unlike}
use Rattle.fd_check.proofs.compare.compare.Given as goal

-- what is found in all is found in those that are left
abbrev pub invariant-loop-acts : goal.invariant-loop-acts
invariant-loop-acts l = record {
  block : l.block ≡ l.first + l.acts-index;
  left : first_unlike (map acts_claimed l.rounds) (drop l.first l.reader.given)
      ≡ first_unlike (map acts_claimed (drop l.acts-index l.rounds)) (drop l.block l.reader.given);
}
