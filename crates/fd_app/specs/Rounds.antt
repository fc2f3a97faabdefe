-- What is said of each printed round: of its state and numbers `m`, for a circuit at an hour and at positions of taps
-- and banks.
use Rattle.std.specs.Prelude.{◌≡◌, ◌<◌, ◌≤◌, ℕ, List, Ok, All}
use Rattle.fd_checking.specs.dss_circuit.Circuit.{CircuitView}
use Rattle.fd_checking.specs.fd_system.Residual.{whole_state}
use Rattle.fd_checking.specs.fd_daily.Underway.{plant_at}
use Rattle.fd_checking.specs.fd_enclosure.Sound.{Claim, certificate_of, inverse_in, number_at}
use Rattle.fd_checking.specs.fd_inject.Procedure.{solution_of}
use Rattle.fd_checking.specs.fd_queue.Controls.{Positions}
use Rattle.fd_checking.specs.fd_settle.Contract.{limits_of}
use Rattle.fd_checking.specs.fd_settle.Rounds.{AtEach}
use Rattle.fd_checking.specs.fd_outcome.Events.{Event, IfSettle}
use Rattle.fd_checking.specs.fd_outcome.Settles.{Settle}
use Rattle.fd_checking.specs.fd_solving.Headline.{AreTied, EnclosesAll, EnclosesAllSizes, HasItsBox, HaveOneBall}
use Rattle.fd_checking.specs.fd_solving.Headline.{IsLinear, MeetsRound, claims_of, equation_count, hour_network}
use Rattle.fd_checking.specs.fd_solving.Headline.{machine_of}

-- P of each round of these events, with the positions at which it was solved
abbrev pub HasEach : (CircuitView → ℕ → Positions → Claim → Type 0) → Settle → Type 0
HasEach P s = AtEach (P s.circuit s.hour) (plant_at s.circuit s.hour) (machine_of s) (claims_of s)

abbrev pub EachRound : (CircuitView → ℕ → Positions → Claim → Type 0) → List Event → Type 0
EachRound P events = All (IfSettle (HasEach P)) events

-- the printed state meets the circuit's equations within the printed mismatches, of which none is above 1,000
pub record MeetsEquations (circuit : CircuitView) (hour : ℕ) (at : Positions) (m : Claim) : Type 0 where
  pub meets : MeetsRound circuit hour at m (whole_state m.centre)
  pub most : (row : ℕ) → row < equation_count circuit hour at → number_at m.mismatches row ≤ 1000

-- The numbers are no others: the state is the one that the procedure reaches; mismatches, box and radii are those that
-- are stated for it; no mismatch is larger than its residual and the rounding of its summands; the box is that of the
-- state alone, and both parts of a voltage and of a current have one box and one radius.
pub record IsExact (circuit : CircuitView) (hour : ℕ) (at : Positions) (m : Claim) : Type 0 where
  pub state : solution_of (hour_network circuit hour at) (limits_of circuit.options) ≡ Ok (m.centre, inverse_in m.support)
  pub certificate : certificate_of (hour_network circuit hour at) m.centre (inverse_in m.support) ≡ Ok m
  pub tied : AreTied circuit hour at m
  pub boxes : HasItsBox circuit hour at m
  pub one_ball : HaveOneBall circuit hour at m

-- where each part load is of constant impedance, every state of whatever size that meets the printed mismatches is
-- within the printed radii, with sizes from low to high
pub record EnclosesLinear (circuit : CircuitView) (hour : ℕ) (at : Positions) (m : Claim) : Type 0 where
  pub all : IsLinear circuit hour at → EnclosesAll circuit hour at m
  pub sizes : IsLinear circuit hour at → EnclosesAllSizes circuit hour at m
