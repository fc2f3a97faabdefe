use Rattle.fd_derived.specs.Rows.{row_at}
use Rattle.fd_derived.specs.Sums.{AreTotals, size_of}
use Rattle.fd_derived.proofs.lists.left_sizes.Given as goal

abbrev pub invariant-loop-row : goal.invariant-loop-row
invariant-loop-row l = AreTotals (λ k. size_of (row_at l.rows k).left) l.row l.sizes.items
