use Rattle.fd_derived.specs.Rows.{coefficients_at}
use Rattle.fd_derived.specs.Sums.{AreTotals, size_of}
use Rattle.fd_derived.proofs.lists.coefficient_sizes.Given as goal

abbrev pub invariant-loop-row : goal.invariant-loop-row
invariant-loop-row l = AreTotals (λ k. size_of (coefficients_at l.equations k)) l.row l.sizes.items
