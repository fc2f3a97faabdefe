use Rattle.std.proofs.Common.{◌≡◌, ℕ, ◌<◌, None}
use Rattle.fd_derived.specs.Refusals.{unknown_refusal}
use Rattle.fd_derived.proofs.checking.bounds_refusal.Given as goal

abbrev pub invariant-loop-unknown : goal.invariant-loop-unknown
invariant-loop-unknown l = (j : ℕ) → j < l.unknown → unknown_refusal l.claim j ≡ None
