use Rattle.std.proofs.Common.{◌≡◌, drop}
use Rattle.fd_sweep.specs.Ladders.{reached_by}
use Rattle.fd_sweep.proofs.reached.reach_all.Given as goal

-- what the branches that are left reach, from what is reached so far, is what all reach
abbrev pub invariant-loop-branch : goal.invariant-loop-branch
invariant-loop-branch l = reached_by (drop l.branch-index l.branches) l.reached ≡ reached_by l.branches l.initial.reached
