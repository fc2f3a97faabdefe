-- What is true of the sweeps of `ladder`.
use Rattle.std.specs.Prelude.{◌≡◌, ℕ, ◌<◌, ◌≤◌, ℤ, List, ◌∷◌, [], slice_get, Some, Ok}
use Rattle.fd_solving.specs.dss_circuit.Circuit.{CircuitView}
use Rattle.fd_solving.specs.dss_layout.Layout.{layout_of}
use Rattle.fd_solving.specs.fd_cert.Widening.{widened}
use Rattle.fd_solving.specs.fd_enclosure.Sound.{Claim, mismatch_at, number_at, parts_of}
use Rattle.fd_solving.specs.fd_report.declared.ladders.Ladder.{Ladder}
use Rattle.fd_solving.specs.fd_report.declared.ladders.Ladder.TheVariants as ladder
use Rattle.fd_solving.specs.fd_sample.Balls.{IsInBall}
use Rattle.fd_solving.specs.fd_system.Residual.{whole_state}
use Rattle.fd_solving.specs.fd_outcome.Events.{Event, settle, swept}
use Rattle.fd_solving.specs.fd_outcome.Settles.{Round, Settle, claim_in, settled}
use Rattle.fd_solving.specs.Boxes.{IsInBox}
use Rattle.fd_solving.specs.Headline.{MeetsRound, equation_count}
use Rattle.fd_sweeping.specs.Beside.{greater_mismatches}
use Rattle.fd_sweeping.specs.Pages.{ladder_in, network, script_at, sweep}
use Rattle.fd_sweep.specs.fd_rungs.declared.swept.Swept.{Swept}
use Rattle.fd_sweep.specs.fd_rungs.declared.swept.Swept.TheVariants.{Settled}

module _ (c : CircuitView) where
  -- the printed state with the greater mismatches of both states, and the radii that they give
  abbrev pub wider : Claim → List ℤ → Claim
  wider m x = widened (network c) m (greater_mismatches (network c) m x)

  -- no mismatch of the state x is above the printed one
  abbrev pub IsNoWider : Claim → List ℤ → Type 0
  IsNoWider m x =
      (l : ℕ) → l < equation_count c 0 (script_at c) → mismatch_at (network c) x l ≤ number_at m.mismatches l

  -- The sweep's state meets the equations of the circuit within the greater mismatches, lies in the printed box, and is
  -- at every place within the radius that these mismatches give of the printed state; so the printed gap is at most the
  -- printed radius. Where none of its mismatches is above the printed one, it is within the printed radii.
  pub record AgreesWith (m : Claim) (x : List ℤ) (gap radius : ℕ) : Type 0 where
    pub meets : MeetsRound c 0 (script_at c) (wider m x) (whole_state x)
    pub inside : IsInBox (parts_of m.support) (layout_of c.elements) m.centre (whole_state x)
    pub near : IsInBall m.centre (wider m x).radii (whole_state x)
    pub gap_most : gap ≤ radius
    pub same : IsNoWider m x → IsInBall m.centre m.radii (whole_state x)

  -- so it is of the state with which the sweep ends, where it came to this
  abbrev pub IsAgreed : Claim → Ladder → Type 0
  IsAgreed m l =
      (x : List ℤ) (sweeps gap radius : ℕ) → sweep c ≡ Ok (Settled x sweeps) → l ≡ ladder.Agrees sweeps gap radius
      → AgreesWith m x gap radius

-- ---- events

-- What a sweep of this circuit comes to beside this certified state is what the definition gives, and where it says
-- that both agree, so it is of the state with which the sweep ends.
pub record IsTrueSweep (c : CircuitView) (m : Claim) (l : Ladder) : Type 0 where
  pub result : Swept
  pub sweep : sweep c ≡ Ok result
  pub comes_to : l ≡ ladder_in c m result
  pub agreed : IsAgreed c m l

-- directly behind a settle stands the sweep of its circuit, beside its first round
pub record HasItsSweep (s : Settle) (events : List Event) : Type 0 where
  pub round : Round
  pub ladder : Ladder
  pub more : List Event
  pub first : slice_get s.rounds 0 ≡ Some round
  pub behind : events ≡ swept s.circuit (claim_in round) ladder ∷ more

-- Each settle that ended well has its sweep behind it, and what each sweep comes to is so.
abbrev pub HaveSweeps : List Event → Type 0
HaveSweeps [] = Unit {0}
HaveSweeps (settle s ∷ events) = (s.end ≡ settled → HasItsSweep s events) × HaveSweeps events
HaveSweeps (swept c m l ∷ events) = IsTrueSweep c m l × HaveSweeps events
HaveSweeps (other ∷ events) = HaveSweeps events
