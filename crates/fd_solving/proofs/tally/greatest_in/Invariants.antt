use Rattle.std.proofs.Common.{◌≡◌, drop}
use Rattle.std.specs.List.{fold}
use Rattle.fd_pages.specs.Hours.{rounds_in}
use Rattle.fd_solving.specs.Tallies.{with_greatest}
use Rattle.fd_solving.proofs.tally.greatest_in.Given as goal

-- the greatest so far, and of the rounds that are left
abbrev pub invariant-loop-round : goal.invariant-loop-round
invariant-loop-round l =
    fold with_greatest l.greatest (rounds_in (drop l.round-index l.rounds))
    ≡ fold with_greatest l.so_far (rounds_in l.rounds)
