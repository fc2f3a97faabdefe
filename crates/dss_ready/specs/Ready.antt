-- What the tests of Solve answer.
use Rattle.std.specs.Prelude.{◌≡◌, ℕ, [], Option, Some, None, option_map, slice_get, Result, Ok, Err}
use Rattle.dss_circuit.specs.dss_model.declared.fault.ModelFault.{ModelFault}
use Rattle.dss_circuit.specs.dss_model.declared.fault.ModelFault.TheVariants as fault
use Rattle.dss_circuit.specs.dss_model.declared.command.Blame.{Blame}
use Rattle.dss_circuit.specs.dss_model.declared.element.Element.{Element}
use Rattle.dss_circuit.specs.dss_model.declared.names.ElementName.{ElementName}
use Rattle.dss_circuit.specs.dss_model.Element.{place_of}
use Rattle.dss_layout.specs.Layout.{first_too_many}
use Rattle.dss_ready.specs.Feeding.{IsFirstIsolated, FirstIsolated}
use Rattle.dss_ready.specs.declared.fault.ReadyFault.{ReadyFault}
use Rattle.dss_ready.specs.declared.fault.ReadyFault.TheVariants as ready_fault
use Rattle.dss_circuit.specs.Circuit.{Elements, CircuitView}
use Rattle.dss_ready.specs.Walk.{first_blame}

-- the first element of a circuit, in order of definition, that is to blame for a cause of its own
abbrev pub own_blame : CircuitView → Result Unit Blame
own_blame circuit = first_blame circuit.options.defaultbasefrequency circuit.elements [] circuit.elements

-- a cause, blamed on an element
abbrev pub blame_on : ModelFault → ElementName × Element → Blame
blame_on cause entry = record { place = place_of entry.1; cause = cause }

-- a cause, blamed on the element at a place in order
abbrev pub blame_at : ModelFault → Elements → ℕ → Option Blame
blame_at cause elements place = option_map (blame_on cause) (slice_get elements place)

-- an element is to blame for a cause of its own; if there is none, the first that passes a limit on the unknowns is; and if
-- there is none, the first with a node that isn't fed
pub data IsToBlame (circuit : CircuitView) : Blame → Type 0 where
  for_own : (blame : Blame) → own_blame circuit ≡ Err blame → IsToBlame circuit blame
  for_many : (blame : Blame) (place : ℕ) → own_blame circuit ≡ Ok tt → first_too_many circuit.elements ≡ Some place
      → blame_at fault.TooMany circuit.elements place ≡ Some blame → IsToBlame circuit blame
  for_isolated : (blame : Blame) (place : ℕ) → own_blame circuit ≡ Ok tt → first_too_many circuit.elements ≡ None
      → IsFirstIsolated circuit.elements place → blame_at fault.IsolatedNode circuit.elements place ≡ Some blame
      → IsToBlame circuit blame

-- a circuit passed the tests of Solve: no element is to blame
pub record HasPassed (circuit : CircuitView) : Type 0 where
  pub no_own : own_blame circuit ≡ Ok tt
  pub not_many : first_too_many circuit.elements ≡ None
  pub all_fed : FirstIsolated circuit.elements None

-- an answer is right; want of memory is the only free one
abbrev pub IsAnswer : CircuitView → Result Unit ReadyFault → Type 0
IsAnswer circuit (Ok done) = HasPassed circuit
IsAnswer circuit (Err (ready_fault.Blame blame)) = IsToBlame circuit blame
IsAnswer circuit (Err ready_fault.NoMemory) = Unit {0}
