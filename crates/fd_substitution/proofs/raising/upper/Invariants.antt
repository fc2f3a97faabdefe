use Rattle.std.proofs.Common.{◌≡◌, ℕ, ℤ, List, length}
use Rattle.fd_triangles.specs.fd_derived.fd_factors.fd_exact.States.{part}
use Rattle.fd_substitution.specs.Substitution.{AreLower, UpperAreWithin, upper}
use Rattle.fd_substitution.proofs.raising.upper.Given as goal

abbrev pub invariant-loop-behind : goal.invariant-loop-behind
invariant-loop-behind l = record {
  long : length l.numbers.items ≡ length l.order;
  each : (right : List ℤ) → AreLower l.rows l.order right l.lower
      → (j : ℕ) → part l.numbers.items j ≡ upper l.rows l.order right l.behind j;
  within : (right : List ℤ) → AreLower l.rows l.order right l.lower → UpperAreWithin l.rows l.order right l.behind;
}
