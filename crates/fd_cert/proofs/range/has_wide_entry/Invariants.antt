use Rattle.std.proofs.Common.{ℕ, ◌<◌, ◌≤◌, ◌^◌, nat_abs}
use Rattle.fd_enclosure.specs.fd_exact.States.{part}
use Rattle.fd_cert.proofs.range.has_wide_entry.Given as goal

abbrev pub invariant-loop-col : goal.invariant-loop-col
invariant-loop-col l = (k : ℕ) → k < l.col → nat_abs (part l.row k) ≤ 2 ^ 56
