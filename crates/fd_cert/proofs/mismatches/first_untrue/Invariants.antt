use Rattle.std.proofs.Common.{◌≡◌, ℕ, ◌<◌, false}
use Rattle.fd_enclosure.specs.Sound.{number_at}
use Rattle.fd_cert.specs.Rechecks.{is_untrue}
use Rattle.fd_cert.proofs.mismatches.first_untrue.Given as goal

abbrev pub invariant-loop-row : goal.invariant-loop-row
invariant-loop-row l = (k : ℕ) → k < l.row → is_untrue (number_at l.own k) (number_at l.claimed k) ≡ false
