use Rattle.std.proofs.Common.{◌≡◌, ℕ, ◌<◌, ◌≤◌, ◌^◌}
use Rattle.fd_triangles.specs.fd_derived.fd_factors.fd_exact.Rounding.{near_div}
use Rattle.fd_triangles.specs.fd_derived.fd_factors.fd_exact.States.{part}
use Rattle.fd_substitution.proofs.moving.make_whole.Given as goal

abbrev pub invariant-loop-place : goal.invariant-loop-place
invariant-loop-place l = record {
  done : (j : ℕ) → j < l.place → part l.numbers j ≡ near_div (part l.fn.numbers j) (2 ^ 20);
  left : (j : ℕ) → l.place ≤ j → part l.numbers j ≡ part l.fn.numbers j;
}
