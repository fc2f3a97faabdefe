use Rattle.std.proofs.Common.{◌≡◌, ℕ, ◌<◌, false, nat_lt}
use Rattle.fd_substitution.specs.fd_derived.Rows.{number_at}
use Rattle.fd_bounds.proofs.rising.first_risen.Given as goal

abbrev pub invariant-loop-unknown : goal.invariant-loop-unknown
invariant-loop-unknown l = (j : ℕ) → j < l.unknown → nat_lt (number_at l.raised j) (number_at l.bounds j) ≡ false
