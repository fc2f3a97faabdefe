use Rattle.std.proofs.Common.{◌+◌, ◌*◌, ◌^◌, length}
use Rattle.fd_factors.specs.fd_exact.Sums.{sum_n}
use Rattle.fd_derived.specs.Rows.{number_at, radius, right_side_at}
use Rattle.fd_derived.specs.Sums.{AreTotals}
use Rattle.fd_derived.proofs.lists.allowances.Given as goal

abbrev pub invariant-loop-row : goal.invariant-loop-row
invariant-loop-row l = AreTotals (λ k. sum_n (λ j. radius l.equations k j * number_at l.bounds j) (length l.equations) + 2 ^ 40 * right_side_at l.equations k) l.row l.sizes.items
