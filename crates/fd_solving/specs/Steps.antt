-- What a command comes to for `solve`: a change of the circuit, the settles of a Solve's hours, or the end of the run.
use Rattle.std.specs.Prelude.{ℕ, List, [], ◌++◌, ◌+◌}
use Rattle.dss_commands.specs.dss_model.declared.command.Place.{Place}
use Rattle.dss_commands.specs.dss_circuit.Circuit.{CircuitView}
use Rattle.fd_daily.specs.fd_queue.Controls.{Positions}
use Rattle.fd_pages.specs.fd_report.declared.faults.Cause.{Cause}
use Rattle.fd_pages.specs.fd_report.declared.faults.Fault.TheVariants as fault
use Rattle.fd_pages.specs.fd_outcome.Events.{Event, behind_settles}
use Rattle.fd_pages.specs.fd_outcome.Settles.{Settle}
use Rattle.fd_pages.specs.fd_outcome.Work.{Step, goes, ends}

-- between two commands: the circuit, the positions of taps and banks that its last Solve left, none before the first,
-- and how many settles there were so far
pub record StandingView : Type 0 where
  pub circuit : CircuitView
  pub at : Positions
  pub settled : ℕ

abbrev pub standing : CircuitView → Positions → ℕ → StandingView
standing circuit at settled = record { circuit = circuit; at = at; settled = settled }

abbrev pub changes : StandingView → Step StandingView
changes s = goes [] s

abbrev pub refuses : Place → Cause → Step StandingView
refuses place c = ends [] (fault.Script place c)

-- these events, and then those of a step
abbrev pub behind_events : List Event → Step StandingView → Step StandingView
behind_events front (goes events s) = goes (front ++ events) s
behind_events front (ends events f) = ends (front ++ events) f

-- a step with what stands behind its settles, which leaves another state
abbrev pub step_with : (Settle → List Event) → (StandingView → StandingView) → Step StandingView → Step StandingView
step_with beside leave (goes events s) = goes (behind_settles beside events) (leave s)
step_with beside leave (ends events f) = ends (behind_settles beside events) f
