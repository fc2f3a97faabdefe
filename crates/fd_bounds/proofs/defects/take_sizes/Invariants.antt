use Rattle.std.proofs.Common.{◌≡◌, ℕ, ◌+◌, length, drop}
use Rattle.fd_substitution.specs.fd_derived.Sums.{IsSupported}
use Rattle.fd_bounds.specs.Defects.{weighed}
use Rattle.fd_bounds.proofs.Sizes.{by_size}
use Rattle.fd_bounds.proofs.defects.take_sizes.Given as goal

abbrev pub invariant-loop-place : goal.invariant-loop-place
invariant-loop-place l = record {
  long : length l.sums ≡ length l.fn.sums;
  supported : IsSupported l.sums (drop l.place-index l.touched);
  noted : (r : ℕ → ℕ) → weighed l.sizes.items r + by_size l.sums r (length l.fn.sums) ≡ by_size l.fn.sums r (length l.fn.sums);
}
