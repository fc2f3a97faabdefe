-- A sampling of a circuit's controls over a certified state.
use Rattle.std.specs.Prelude.{ℕ, ◌+◌, List, [], ◌∷◌, map, Result, Ok, Err}
use Rattle.fd_sample.specs.fd_queue.Controls.{Positions}
use Rattle.fd_sample.specs.fd_queue.Decisions.{Decision}
use Rattle.fd_inject.specs.fd_exact.States.{State}
use Rattle.fd_sample.specs.declared.probe.Probe.{Probe}
use Rattle.fd_sample.specs.Decided.{Undecided, sample_over}
use Rattle.fd_sample.specs.Probes.{decision_at, quantity_at}
use Rattle.fd_cert.specs.fd_enclosure.Sound.{Claim}

-- what each control wants, or the first control whose sample is undecided
pub data Sampling : Type 0 where
  Decided : List Decision → Sampling
  Unclear : ℕ → Undecided → Sampling

abbrev pub with_first : Decision → Sampling → Sampling
with_first d (Decided ds) = Decided (d ∷ ds)
with_first d (Unclear k u) = Unclear k u

-- the samples of the controls from number k on, in the script's order
abbrev pub sampling_of : ℕ → List (Result Decision Undecided) → Sampling
sampling_of k [] = Decided []
sampling_of k (Ok d ∷ samples) = with_first d (sampling_of (k + 1) samples)
sampling_of k (Err u ∷ samples) = Unclear k u

-- over the ball of a certified state, at these positions
abbrev pub look_over : List Probe → Positions → Claim → Sampling
look_over ps at m = sampling_of 0 (map (λ p. sample_over p at m.centre m.radii) ps)

-- at a state: there each control's decision is plain
abbrev pub look_at : List Probe → Positions → State → Sampling
look_at ps at x = Decided (map (λ p. decision_at p at (quantity_at p at x)) ps)
