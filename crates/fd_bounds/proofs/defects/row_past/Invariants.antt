use Rattle.std.proofs.Common.{◌≡◌, ℕ, ◌<◌, ◌^◌, false, nat_lt}
use Rattle.fd_substitution.specs.fd_derived.Refusals.{added_sizes}
use Rattle.fd_bounds.proofs.defects.row_past.Given as goal

abbrev pub invariant-loop-row : goal.invariant-loop-row
invariant-loop-row l = (t : ℕ) → t < l.row → nat_lt (2 ^ 120) (added_sizes l.equations l.rows t) ≡ false
