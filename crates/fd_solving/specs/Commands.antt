-- What a command comes to.
use Rattle.std.specs.Prelude.{◌≡◌, ℕ, Result, Ok, Err}
use Rattle.dss_commands.specs.dss_model.declared.fault.ModelFault.{ModelFault}
use Rattle.dss_commands.specs.dss_model.declared.command.Blame.{Blame}
use Rattle.dss_commands.specs.dss_model.declared.command.Command.{Command}
use Rattle.dss_commands.specs.dss_model.declared.command.Place.{Place}
use Rattle.dss_commands.specs.dss_model.declared.command.Verb.{Verb}
use Rattle.dss_commands.specs.dss_model.declared.command.Verb.TheVariants as verb
use Rattle.fd_daily.specs.dss_ready.Ready.{HasPassed, IsToBlame}
use Rattle.dss_commands.specs.dss_circuit.Circuit.{CircuitView}
use Rattle.dss_commands.specs.Commands.{applied}
use Rattle.fd_daily.specs.fd_queue.Controls.{Positions}
use Rattle.fd_pages.specs.fd_report.declared.faults.Cause.{Cause}
use Rattle.fd_pages.specs.fd_report.declared.faults.Cause.TheVariants as cause
use Rattle.fd_pages.specs.fd_outcome.Work.{Step, goes}
use Rattle.fd_pages.specs.Bases.{base_events}
use Rattle.fd_solving.specs.Solving.{IsSolutionStep}
use Rattle.fd_solving.specs.Steps.{StandingView, changes, refuses, standing}

-- ---- what is left to do once it is applied

-- what is left to do of a command that the circuit accepted
pub data Applied : Type 0 where
  nothing_left : CircuitView → Applied
  solve_left : CircuitView → Applied
  bases_left : CircuitView → Applied
  refused_at : Place → Cause → Applied

abbrev pub left_of : Place → Verb → Result CircuitView ModelFault → Applied
left_of place v (Err f) = refused_at place (cause.Model f)
left_of place verb.Bases (Ok circuit) = bases_left circuit
left_of place (verb.Solve pairs) (Ok circuit) = solve_left circuit
left_of place v (Ok circuit) = nothing_left circuit

abbrev pub tried : Command → CircuitView → Applied
tried command circuit = left_of command.place command.verb (applied command circuit)

-- ---- Solve

-- an answer of the tests of Solve is right
abbrev pub IsTested : CircuitView → Result Unit Blame → Type 0
IsTested circuit (Ok done) = HasPassed circuit
IsTested circuit (Err blame) = IsToBlame circuit blame

-- what the tests answer, and what a circuit that passes them comes to
abbrev pub IsByTests : StandingView → Result Unit Blame → Step StandingView → Type 0
IsByTests s (Err blame) step = step ≡ refuses blame.place (cause.Model blame.cause)
IsByTests s (Ok done) step = IsSolutionStep s step

pub record IsSolve (s : StandingView) (step : Step StandingView) : Type 0 where
  pub answer : Result Unit Blame
  pub right : IsTested s.circuit answer
  pub step_is : IsByTests s answer step

-- ---- a command

-- where the last Solve left these positions, and there were so many settles
abbrev pub IsStepOf : Positions → ℕ → Applied → Step StandingView → Type 0
IsStepOf at settled (nothing_left circuit) step = step ≡ changes (standing circuit at settled)
IsStepOf at settled (refused_at place c) step = step ≡ refuses place c
IsStepOf at settled (bases_left circuit) step = step ≡ goes (base_events circuit) (standing circuit at settled)
IsStepOf at settled (solve_left circuit) step = IsSolve (standing circuit at settled) step

-- what a command comes to
abbrev pub IsStep : Command → StandingView → Step StandingView → Type 0
IsStep command s step = IsStepOf s.at s.settled (tried command s.circuit) step
