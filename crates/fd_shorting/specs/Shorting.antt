-- What the command line `fault MASTER BUS KIND` comes to: a script is read to its end, its Solves setting options
-- alone, and behind the last command the short circuit is solved as one snapshot.
use Rattle.std.specs.Prelude.{◌≡◌, ℕ, Bool, true, false, List, [], Option, Some, None, Result, Ok, Err}
use Rattle.fd_fault.specs.dss_model.Names.{bytes, lower}
use Rattle.fd_fault.specs.dss_model.declared.command.Blame.{Blame}
use Rattle.fd_fault.specs.dss_model.declared.command.Command.{Command}
use Rattle.fd_fault.specs.dss_model.declared.command.Place.{Place}
use Rattle.fd_fault.specs.dss_model.declared.fault.ModelFault.TheVariants as model
use Rattle.fd_fault.specs.dss_model.declared.words.Mode.TheVariants as mode
use Rattle.fd_fault.specs.dss_circuit.Circuit.{CircuitView, empty_circuit, has_circuit}
use Rattle.fd_fault.specs.dss_layout.Layout.{first_too_many}
use Rattle.fd_solving.specs.dss_script.Said.{Part, ended_by}
use Rattle.fd_fault.specs.declared.kind.Kind.{Kind}
use Rattle.fd_fault.specs.FaultCircuit.{fault_circuit_of, fault_elements, first_missing}
use Rattle.fd_fault.specs.ShortNames.{first_free}
use Rattle.fd_solving.specs.fd_outside.Files.{Files, held}
use Rattle.fd_solving.specs.fd_daily.Underway.{no_positions}
use Rattle.fd_solving.specs.fd_report.declared.faults.Cause.TheVariants as cause
use Rattle.fd_solving.specs.fd_report.declared.faults.Fault.{Fault}
use Rattle.fd_solving.specs.fd_report.declared.faults.Fault.TheVariants as fault
use Rattle.fd_solving.specs.fd_outcome.Events.{History, ended, finishes}
use Rattle.fd_solving.specs.fd_outcome.History.{IsHistory}
use Rattle.fd_solving.specs.fd_outcome.Work.{AfterStep, Step, ends, goes}
use Rattle.fd_solving.specs.Commands.{Applied, IsTested, bases_left, nothing_left, refused_at, solve_left, tried}
use Rattle.fd_solving.specs.Solving.{IsSolutionWith}
use Rattle.fd_solving.specs.Steps.{StandingView, standing}
use Rattle.fd_shorting.specs.Pages.{its_phases}

-- between two commands: the circuit, and what was asked for
pub record ShortingView : Type 0 where
  pub circuit : CircuitView
  pub master : List ℕ
  pub bus : List ℕ
  pub kind : Kind

abbrev pub shorting : CircuitView → List ℕ → List ℕ → Kind → ShortingView
shorting c master bus kind = record { circuit = c; master = master; bus = bus; kind = kind }

-- ---- a command

-- nothing is tested, solved or printed
abbrev pub IsTakenOf : ShortingView → Applied → Step ShortingView → Type 0
IsTakenOf s (nothing_left c) step = step ≡ goes [] (record s { circuit = c })
IsTakenOf s (bases_left c) step = step ≡ goes [] (record s { circuit = c })
IsTakenOf s (solve_left c) step = step ≡ goes [] (record s { circuit = c })
IsTakenOf s (refused_at place x) step = step ≡ ends [] (fault.Script place x)

abbrev pub IsShortingStep : Command → ShortingView → Step ShortingView → Type 0
IsShortingStep command s step = IsTakenOf s (tried command s.circuit) step

-- ---- behind the last command

abbrev pub no_shorting_name : ShortingView → Option (List ℕ)
no_shorting_name s = None

-- a cause that no line of the script has
abbrev pub at_master : ShortingView → Place
at_master s = record { file = s.master; line = 0 }

-- the circuit of the short circuit is solved once, whatever mode the script sets
abbrev pub snapshot : CircuitView → CircuitView
snapshot c = record c { options = record (c.options) { mode = mode.Snapshot } }

-- what the Solve of a circuit comes to that is the first of the run, at the script's positions, with the phases of the
-- fault behind it
abbrev pub IsShortSolve : CircuitView → Step StandingView → Type 0
IsShortSolve c step = IsSolutionWith its_phases (λ s. s) (standing c no_positions 0) step

pub record IsSolvedOnce (c : CircuitView) (h : History) : Type 0 where
  pub step : Step StandingView
  pub right : IsShortSolve c step
  pub goes_on : AfterStep step (λ s more. more ≡ finishes []) h

abbrev pub too_many : ShortingView → Fault
too_many s = fault.Script (at_master s) (cause.Model model.TooMany)

abbrev pub IsWithin : ShortingView → ℕ → Option ℕ → History → Type 0
IsWithin s k None h = IsSolvedOnce (snapshot (fault_circuit_of s.circuit s.bus s.kind k)) h
IsWithin s k (Some place) h = h ≡ ended [] (too_many s)

-- the line has the first name that no Line has, of which there is one in every circuit, and the limits on the unknowns
-- are looked at with it
abbrev pub IsPlaced : ShortingView → Option ℕ → History → Type 0
IsPlaced s None h = h ≡ ended [] (too_many s)
IsPlaced s (Some number) h =
    IsWithin s number (first_too_many (fault_elements s.circuit.elements s.bus s.kind number)) h

-- a node that isn't there, by the scripted circuit
abbrev pub IsAsked : ShortingView → Option ℕ → History → Type 0
IsAsked s (Some number) h = h ≡ ended [] (fault.NoSuchNode (record { bus = s.bus; number = number }))
IsAsked s None h = IsPlaced s (first_free s.circuit.elements) h

-- the tests of Solve are made once
abbrev pub IsByTests : ShortingView → Result Unit Blame → History → Type 0
IsByTests s (Err blame) h = h ≡ ended [] (fault.Script blame.place (cause.Model blame.cause))
IsByTests s (Ok done) h = IsAsked s (first_missing s.circuit.elements s.bus s.kind) h

pub record IsTestedOnce (s : ShortingView) (h : History) : Type 0 where
  pub answer : Result Unit Blame
  pub right : IsTested s.circuit answer
  pub then_is : IsByTests s answer h

abbrev pub IsByCircuit : ShortingView → Bool → History → Type 0
IsByCircuit s false h = h ≡ ended [] (fault.Script (at_master s) (cause.Model model.NoCircuit))
IsByCircuit s true h = IsTestedOnce s h

abbrev pub IsShorted : ShortingView → Option (List ℕ) → History → Type 0
IsShorted s found h = IsByCircuit s (has_circuit s.circuit.elements) h

-- ---- the history

-- of the commands of a script, for a bus in any case
abbrev pub IsFaultHistory : Files → Part → List ℕ → List ℕ → Kind → History → Type 0
IsFaultHistory files p master bus kind h =
    IsHistory IsShortingStep no_shorting_name IsShorted (λ n. held files (bytes n)) p.said (ended_by p.left)
    (shorting empty_circuit master (lower bus) kind) h
