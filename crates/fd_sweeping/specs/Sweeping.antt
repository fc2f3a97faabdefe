-- The command line `ladder MASTER`: each Solve is one solution in snapshot, of which no control takes part, at the
-- positions that the script gives, and a sweep beside it.
use Rattle.std.specs.Prelude.{◌≡◌, ℕ, List, [], slice_get, Option, Some, None, Result, Ok, Err}
use Rattle.fd_solving.specs.dss_model.Names.{bytes}
use Rattle.fd_solving.specs.dss_model.declared.command.Blame.{Blame}
use Rattle.fd_solving.specs.dss_model.declared.command.Command.{Command}
use Rattle.fd_solving.specs.dss_model.declared.element.Element.{Element}
use Rattle.fd_solving.specs.dss_model.declared.names.ElementName.{ElementName}
use Rattle.fd_solving.specs.dss_model.declared.options.Options.{Options}
use Rattle.fd_solving.specs.dss_model.declared.words.ControlMode.TheVariants as control
use Rattle.fd_solving.specs.dss_model.declared.words.Mode.TheVariants as mode
use Rattle.fd_solving.specs.dss_circuit.Circuit.{CircuitView, Elements, empty_circuit}
use Rattle.fd_solving.specs.dss_script.Said.{Part, ended_by}
use Rattle.fd_solving.specs.fd_daily.Underway.{no_positions}
use Rattle.fd_sweep.specs.fd_ladder.Radial.{first_offending}
use Rattle.fd_solving.specs.fd_outside.Files.{Files, held}
use Rattle.fd_solving.specs.fd_report.declared.faults.Cause.TheVariants as cause
use Rattle.fd_solving.specs.fd_report.declared.faults.Fault.{Fault}
use Rattle.fd_solving.specs.fd_report.declared.faults.Fault.TheVariants as fault
use Rattle.fd_solving.specs.fd_outcome.Events.{History, finishes}
use Rattle.fd_solving.specs.fd_outcome.History.{IsHistory}
use Rattle.fd_solving.specs.fd_outcome.Work.{Step, ends, goes}
use Rattle.fd_solving.specs.fd_pages.Bases.{base_events}
use Rattle.fd_solving.specs.Commands.{Applied, IsTested, bases_left, nothing_left, refused_at, solve_left, tried}
use Rattle.fd_solving.specs.Scripts.{IsDoneThere, no_name}
use Rattle.fd_solving.specs.Solving.{IsSolutionWith, nameless}
use Rattle.fd_solving.specs.Steps.{StandingView, changes, refuses, standing}
use Rattle.fd_sweeping.specs.Pages.{its_sweep}

-- between two commands: the circuit, and how many settles there were. What a Solve left at taps and banks is forgotten
abbrev pub sweeping : CircuitView → ℕ → StandingView
sweeping c settled = standing c no_positions settled

-- ---- a Solve of a radial circuit

-- whatever mode and control mode the script sets
abbrev pub at_rest : Options → Options
at_rest o = record o { mode = mode.Snapshot; controlmode = control.Off }

abbrev pub snapshot : CircuitView → CircuitView
snapshot c = record c { options = at_rest c.options }

-- what its one settle comes to, with its sweep behind it; the circuit is as before
abbrev pub as_before : CircuitView → StandingView → StandingView
as_before c t = sweeping c t.settled

abbrev pub IsSweptSolve : CircuitView → ℕ → Step StandingView → Type 0
IsSweptSolve c n step = IsSolutionWith its_sweep (as_before c) (sweeping (snapshot c) n) step

-- ---- before it

-- the fault of the first element that offends (it is there)
abbrev pub not_radial_by : Option (ElementName × Element) → Fault
not_radial_by None = fault.NotRadial nameless
not_radial_by (Some entry) = fault.NotRadial entry.0

abbrev pub not_radial : Elements → ℕ → Fault
not_radial elements number = not_radial_by (slice_get elements number)

-- the circuit is radial, or the first element that offends is named
abbrev pub IsByOrder : CircuitView → ℕ → Option ℕ → Step StandingView → Type 0
IsByOrder c n (Some number) step = step ≡ ends [] (not_radial c.elements number)
IsByOrder c n None step = IsSweptSolve c n step

-- behind the tests of Solve
abbrev pub IsByTests : CircuitView → ℕ → Result Unit Blame → Step StandingView → Type 0
IsByTests c n (Err blame) step = step ≡ refuses blame.place (cause.Model blame.cause)
IsByTests c n (Ok done) step = IsByOrder c n (first_offending c.elements) step

pub record IsTestedSolve (c : CircuitView) (n : ℕ) (step : Step StandingView) : Type 0 where
  pub answer : Result Unit Blame
  pub right : IsTested c answer
  pub step_is : IsByTests c n answer step

-- ---- a command

abbrev pub IsSweepingStepOf : ℕ → Applied → Step StandingView → Type 0
IsSweepingStepOf n (nothing_left c) step = step ≡ changes (sweeping c n)
IsSweepingStepOf n (refused_at place x) step = step ≡ refuses place x
IsSweepingStepOf n (bases_left c) step = step ≡ goes (base_events c) (sweeping c n)
IsSweepingStepOf n (solve_left c) step = IsTestedSolve c n step

abbrev pub IsSweepingStep : Command → StandingView → Step StandingView → Type 0
IsSweepingStep command s step = IsSweepingStepOf s.settled (tried command s.circuit) step

-- ---- the history

abbrev pub IsLadderHistory : Files → Part → History → Type 0
IsLadderHistory files p h =
    IsHistory IsSweepingStep no_name IsDoneThere (λ n. held files (bytes n)) p.said (ended_by p.left)
    (sweeping empty_circuit 0) h
