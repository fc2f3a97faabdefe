use Rattle.std.proofs.Common.{◌≡◌, ℕ, ◌≤◌, ◌^◌, nat_abs}
use Rattle.fd_triangles.specs.fd_derived.fd_factors.fd_exact.States.{part}
use Rattle.fd_substitution.specs.Sums.{left_after}
use Rattle.fd_substitution.proofs.sums.less_products.Given as goal

abbrev pub invariant-loop-entry : goal.invariant-loop-entry
invariant-loop-entry l = record {
  sums : (k : ℕ) → k ≤ l.entry-index → nat_abs (left_after l.start l.row (part l.numbers) k) ≤ 2 ^ 120;
  left : l.left ≡ left_after l.start l.row (part l.numbers) l.entry-index;
}
