use Rattle.std.proofs.Common.{◌≡◌, ℕ, length}
use Rattle.fd_triangles.specs.fd_derived.fd_factors.fd_exact.States.{part}
use Rattle.fd_substitution.specs.Substitution.{LowerAreWithin, lower}
use Rattle.fd_substitution.proofs.lowering.lower.Given as goal

abbrev pub invariant-loop-t : goal.invariant-loop-t
invariant-loop-t l = record {
  long : length l.numbers.items ≡ length l.order;
  each : (j : ℕ) → part l.numbers.items j ≡ lower l.rows l.order l.right l.t j;
  within : LowerAreWithin l.rows l.order l.right l.t;
}
