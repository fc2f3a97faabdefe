-- What a command and the end of a script come to, as the code says it.
use Rattle.std.specs.Prelude.{◌≡◌, ℕ, Bool, true, false, List, [], Option, Some, None, Result, Ok, Err}
use Rattle.fd_fault.specs.dss_model.declared.command.Command.{Command}
use Rattle.fd_fault.specs.dss_model.declared.fault.ModelFault.{ModelFault}
use Rattle.fd_fault.specs.dss_circuit.Circuit.{CircuitView, has_circuit}
use Rattle.fd_fault.specs.dss_ready.Ready.{HasPassed}
use Rattle.fd_fault.specs.declared.fault.CircuitFault.{CircuitFault}
use Rattle.fd_fault.specs.declared.fault.CircuitFault.TheVariants as circuit
use Rattle.fd_solving.specs.dss_commands.Commands.{applied}
use Rattle.fd_solving.specs.fd_report.declared.faults.Cause.TheVariants as cause
use Rattle.fd_solving.specs.fd_report.declared.faults.Fault.{Fault}
use Rattle.fd_solving.specs.fd_report.declared.faults.Fault.TheVariants as fault
use Rattle.fd_solving.specs.fd_outcome.Behind.{last_calls}
use Rattle.fd_solving.specs.fd_outcome.Calls.{report}
use Rattle.fd_solving.specs.fd_outcome.Events.{History, ended}
use Rattle.fd_solving.specs.fd_outcome.Parts.{Printed}
use Rattle.fd_solving.specs.Answered.{IsOfCommand}
use Rattle.fd_shorting.specs.Shorting.{IsByCircuit, IsSolvedOnce, ShortingView, too_many}

-- ---- a command

-- the circuit refuses it, and is as before
pub record IsRefused (command : Command) (old new : CircuitView) (f : Fault) : Type 0 where
  pub same : new ≡ old
  pub why : ModelFault
  pub refuses : applied command old ≡ Err why
  pub fault_is : f ≡ fault.Script command.place (cause.Model why)

-- the circuit has taken it, or the run ends
abbrev pub IsFollowed : Command → CircuitView → CircuitView → Option Fault → Type 0
IsFollowed command old new None = applied command old ≡ Ok new
IsFollowed command old new (Some f) = IsRefused command old new f

-- ---- the end of a script

-- a fault with which the run ends there
pub record IsEndWith (s : ShortingView) (f : Fault) : Type 0 where
  pub right : IsByCircuit s (has_circuit s.circuit.elements) (ended [] f)
  pub of_command : IsOfCommand f

-- the scripted circuit has passed the tests, or the run ends
abbrev pub IsTestedAs : ShortingView → Option Fault → Type 0
IsTestedAs s (Some f) = IsEndWith s f
IsTestedAs s None = (has_circuit s.circuit.elements ≡ true) × HasPassed s.circuit

-- the fault for want of a node or of room for the line
abbrev pub IsUnplaced : ShortingView → CircuitFault → Fault → Type 0
IsUnplaced s (circuit.NoNode number) f = f ≡ fault.NoSuchNode (record { bus = s.bus; number = number })
IsUnplaced s circuit.TooMany f = f ≡ too_many s
IsUnplaced s circuit.NoMemory f = ⊥

-- the circuit of the short circuit in snapshot is left to solve, or the run ends
abbrev pub IsPlacedAs : ShortingView → Result CircuitView Fault → Type 0
IsPlacedAs s (Ok c) =
    HasPassed c × ((h : History) → IsSolvedOnce c h → IsByCircuit s (has_circuit s.circuit.elements) h)
IsPlacedAs s (Err f) = IsEndWith s f

-- what solving a circuit once comes to is printed, all of it or a front
pub record IsPrintedOnce {S : Type 0} (taken : S → List ℕ) (calls : S → ℕ) (old new : S) (begun : Bool)
    (c : CircuitView)
    (code : ℕ) : Type 0 where
  pub history : History
  pub right : IsSolvedOnce c history
  pub prints : Printed taken calls old new false
      (record { calls = last_calls report begun history.events history.end; end = history.end }) code
