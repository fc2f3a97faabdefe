use Rattle.std.proofs.Common.{◌≡◌, ◌+◌, take}
use Rattle.fd_factors.specs.Factors.{weighted_size}
use Rattle.fd_derived.specs.Rows.{entries_of, number_at}
use Rattle.fd_derived.specs.Sums.{capped}
use Rattle.fd_derived.proofs.totals.plus_weighted.Given as goal

abbrev pub invariant-loop-entry : goal.invariant-loop-entry
invariant-loop-entry l = l.whole ≡ capped (l.fn.total + weighted_size (entries_of (take l.entry-index l.row)) (number_at l.numbers))
