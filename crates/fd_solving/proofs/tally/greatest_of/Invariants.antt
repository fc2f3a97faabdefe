use Rattle.std.proofs.Common.{◌≡◌, drop, max}
use Rattle.std.specs.List.{fold}
use Rattle.fd_solving.proofs.tally.greatest_of.Given as goal

-- the greatest so far, and of those that are left
abbrev pub invariant-loop-mismatch : goal.invariant-loop-mismatch
invariant-loop-mismatch l = fold max l.greatest (drop l.mismatch-index l.mismatches) ≡ fold max l.so_far l.mismatches
