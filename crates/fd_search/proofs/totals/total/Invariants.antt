use Rattle.std.proofs.Common.{◌≡◌, ◌+◌, ◌*◌, ◌≤◌, ◌^◌, take}
use Rattle.fd_inject.specs.fd_equations.fd_exact.Sums.{list_n}
use Rattle.fd_search.proofs.totals.total.Given as goal

abbrev pub invariant-loop-mismatch : goal.invariant-loop-mismatch
invariant-loop-mismatch l = record {
  sum : l.high * 2 ^ 64 + l.low ≡ list_n (λ n. n) (take l.mismatch-index l.mismatches);
  high : l.high ≤ l.mismatch-index * 2 ^ 64;
  low : l.low ≤ l.mismatch-index * 2 ^ 64;
}
