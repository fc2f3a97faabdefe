-- What `check` holds of a script is what its commands made.
use Rattle.std.specs.Prelude.{◌≡◌, ℕ, ◌+◌, ◌≤◌, List, [], ◌∷◌, ◌++◌, length, Option, Some, None}
use Rattle.fd_check.specs.dss_circuit.Circuit.{CircuitView, empty_circuit}
use Rattle.fd_check.specs.dss_model.declared.command.Command.{Command}
use Rattle.fd_solving.specs.dss_script.Sessions.{cost}
use Rattle.fd_check.specs.Commands.{AreAccepted, behind_all, solves_in}
use Rattle.fd_solving.specs.fd_report.declared.faults.Fault.{Fault}
use Rattle.fd_solving.specs.fd_outcome.Work.{Step, ends, goes}
use Rattle.fd_solving.specs.Answered.{IsOfCommand}
use Rattle.fd_solving.specs.Weights.{weight}
use Rattle.fd_checking.specs.Checks.{GatheredView, IsCheckStep, gathered}

-- each command was accepted, and they made this circuit; there is room for it in a script
pub record IsGathered (c : CircuitView) (commands : List Command) : Type 0 where
  pub circuit_is : c ≡ behind_all empty_circuit commands
  pub accepted : AreAccepted empty_circuit commands
  pub solves : length (solves_in empty_circuit commands) ≤ c.solves
  pub room : weight c ≤ 1048578

-- the circuits of the Solves
abbrev pub solved_by : List Command → List CircuitView
solved_by commands = solves_in empty_circuit commands

-- ---- a command, as a step: the fault in which the run ends, or none where it goes on

abbrev pub step_in : Option Fault → GatheredView → Step GatheredView
step_in None g = goes [] g
step_in (Some f) g = ends [] f

abbrev pub IsNoneOrOfCommand : Option Fault → Type 0
IsNoneOrOfCommand None = Unit {0}
IsNoneOrOfCommand (Some f) = IsOfCommand f

-- a command is kept behind these
pub record IsKeptWith (command : Command) (before after : List Command) (f : Option Fault) : Type 0 where
  pub none : f ≡ None
  pub kept : after ≡ before ++ command ∷ []

-- what a command comes to, with what is held before and after it
pub record IsFollowed (command : Command) (old new : CircuitView) (before after : List Command)
    (f : Option Fault) : Type 0 where
  pub step : (name : List ℕ)
      → IsCheckStep command (gathered old (solved_by before) name) (step_in f (gathered new (solved_by after) name))
  pub of_command : IsNoneOrOfCommand f
  pub gathered_so : f ≡ None → IsGathered new after
  pub room : f ≡ None → weight new ≤ weight old + cost command.verb
