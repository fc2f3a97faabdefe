-- The acts of a whole run, and what waits at the end of each Solve, over any states that solve its rounds.
use Rattle.std.specs.Prelude.{◌≡◌, ◌⊎◌, ℕ, ◌+◌, List, [], ◌∷◌, map, Option, None}
use Rattle.fd_checking.specs.fd_exact.States.{State}
use Rattle.fd_checking.specs.dss_script.Said.{Part}
use Rattle.fd_checking.specs.fd_enclosure.Sound.{Claim}
use Rattle.fd_checking.specs.fd_settle.Plant.{controls_in, setup_of}
use Rattle.fd_checking.specs.fd_settle.Sampling.{look_at}
use Rattle.fd_checking.specs.fd_settle.Settle.{Outcome, outcome_of}
use Rattle.fd_checking.specs.fd_certfile.Rules.{moves}
use Rattle.fd_checking.specs.fd_check.Checking.{Checking, Settling, act_due, behind_round, done, open_solves}
use Rattle.fd_checking.specs.fd_check.Checking.{sampled_by, under_way}
use Rattle.fd_checking.specs.fd_daily.Underway.{no_positions}
use Rattle.fd_checking.specs.fd_outcome.Events.{Event, settle, waits}
use Rattle.fd_checking.specs.fd_outcome.Settles.{Round, Settle, claim_in, settled}
use Rattle.fd_checking.specs.fd_solving.Headline.{IsOtherState}
use Rattle.fd_app.specs.Solves.{solves_of}
use Rattle.fd_app.specs.Waiting.{AreWaiting, IsEnd, IsLastAtFault, Left, Waiting, left_at_end, waiting_behind}

-- ---- one round

-- A state of any denominator that solves a round as closely as the printed one: it lies in the trust box of the printed
-- state and meets the printed mismatches in every equation of the round's circuit.
abbrev pub Solves : Settling → Claim → State → Type 0
Solves s m x = IsOtherState s.circuit s.hour s.machine.at m x

-- what the round comes to where each control wants what it does at this state
abbrev pub outcome_at : Settling → State → Outcome
outcome_at s x = outcome_of (setup_of s.circuit) s.machine (look_at (controls_in s.circuit) s.machine.at x)

-- ---- the rounds of a settle

-- the round of a settle that is due: its circuit, the settle's number and hour, and the number of the round
pub record IsDue (s : Settling) (x : Settle) (round : ℕ) : Type 0 where
  pub circuit : s.circuit ≡ x.circuit
  pub number : s.number ≡ x.number
  pub hour : s.hour ≡ x.hour
  pub round_is : s.round ≡ round

-- the last round of a settle that ends with a fault, with no act
pub record IsLastOfFault (x : Settle) (r : Round) (rounds : List Round) : Type 0 where
  pub last : rounds ≡ []
  pub no_act : r.acts ≡ []
  pub fault : x.end ≡ settled → ⊥

-- The round that is due is this one. Its acts are those of the queue machine over any state that solves it, and so it
-- goes on with the rounds behind it, whatever state was chosen, and at last with what the settle left; where a settle
-- ends with a fault, no act follows its last round, of which nothing more is said.
abbrev pub AreSteadyFrom : Settle → ℕ → List Round → Option Left → (Option Left → Checking → Type 0) → Checking → Type 0
AreSteadyFrom x k [] l rest t = rest l t
AreSteadyFrom x k (r ∷ rounds) l rest done = ⊥
AreSteadyFrom x k (r ∷ rounds) l rest (under_way s) =
    IsDue s x k
    × ((y : State) → Solves s (claim_in r) y
    → IsLastOfFault x r rounds
    ⊎ ((sampled_by (outcome_at s y) ≡ moves (map act_due r.acts))
    × AreSteadyFrom x (k + 1) rounds (left_at_end s.hours (outcome_at s y)) rest (behind_round s (outcome_at s y))))

-- ---- all settles, through all hours of all Solves

-- `due` is what waits where the last settle ended, which is told directly behind it
abbrev pub AreSteady : List Event → Option Waiting → Checking → Type 0
AreSteady [] due t = due ≡ None
AreSteady (settle x ∷ events) due t =
    (due ≡ None) × (IsLastAtFault x events
    × AreSteadyFrom x 0 x.rounds None (λ l u. IsEnd x l × AreSteady events (waiting_behind x.circuit l) u) t)
AreSteady (waits c es ∷ events) due t = AreWaiting due c es × AreSteady events None t
AreSteady (other ∷ events) due t = (due ≡ None) × AreSteady events None t

-- so from the first Solve of a script on, before which no positions and no settles are
abbrev pub AreSteadyThroughout : Part → List Event → Type 0
AreSteadyThroughout p events = AreSteady events None (open_solves (solves_of p) no_positions 0)
