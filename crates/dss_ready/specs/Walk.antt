-- The first element that is to blame, in order of definition.
use Rattle.std.specs.Prelude.{ℕ, Bool, ◌||◌, [], ◌∷◌, ◌++◌, Option, Some, None, Result, Ok, Err, if◌then◌else◌}
use Rattle.dss_circuit.specs.dss_model.declared.command.Place.{Place}
use Rattle.dss_circuit.specs.dss_model.declared.fault.ModelFault.{ModelFault}
use Rattle.dss_circuit.specs.dss_model.declared.fault.ModelFault.TheVariants as fault
use Rattle.dss_circuit.specs.dss_model.declared.command.Blame.{Blame}
use Rattle.dss_circuit.specs.dss_model.declared.element.Element.{Element}
use Rattle.dss_circuit.specs.dss_model.declared.names.ElementName.{ElementName}
use Rattle.dss_ready.specs.declared.fault.ReadyFault.{ReadyFault}
use Rattle.dss_ready.specs.declared.fault.ReadyFault.TheVariants as ready_fault
use Rattle.dss_circuit.specs.fd_exact.Answers as answers
use Rattle.dss_circuit.specs.dss_model.Element.{place_of}
use Rattle.dss_layout.specs.Terminals.{terminal_numbers, tested}
use Rattle.dss_circuit.specs.Circuit.{Elements}
use Rattle.dss_ready.specs.Mentions.{is_second_control}
use Rattle.dss_ready.specs.Ranges.{is_outside_by}
use Rattle.dss_ready.specs.Counts.{is_count_fault, is_part_wrong}
use Rattle.dss_ready.specs.Support.{is_support_fault, are_powers_unequal, differs_from, frequency_of, lacks_impedance}

-- the blame of a refusal, unless memory ran out
abbrev pub fault_of : ReadyFault → Option Blame
fault_of (ready_fault.Blame blame) = Some blame
fault_of ready_fault.NoMemory = None

-- a refusal is the one that is said
abbrev pub Answers : Result Unit ReadyFault → Result Unit Blame → Type 0
Answers = answers.Makes fault_of tt

-- a cause is blamed on its element, and without one the rest is looked at
abbrev pub blamed_or : Option ModelFault → Place → Result Unit Blame → Result Unit Blame
blamed_or None place rest = rest
blamed_or (Some cause) place rest = Err (record { place = place; cause = cause })

-- the first of the causes that applies
abbrev pub first_cause : Bool → Bool → Bool → Bool → Bool → Option ModelFault
first_cause outside count unsupported second impedance =
    if outside then Some fault.OutOfRange
    else (if count then Some fault.WrongCount
    else (if unsupported then Some fault.Unsupported
    else (if second then Some fault.Duplicate
    else (if impedance then Some fault.NoImpedance
    else None))))

-- the elements of a circuit with this frequency in hertz
module _ (hertz : ℕ) (elements : Elements) where
  -- why an element is to blame; `second` says whether it is a second control
  abbrev pub cause_by : Bool → ElementName → Element → Option ModelFault
  cause_by second name element = first_cause
      (is_outside_by elements name element)
      (is_count_fault (tested (terminal_numbers element)) || is_part_wrong elements name element)
      (is_support_fault (tested (terminal_numbers element)) || (are_powers_unequal element || differs_from hertz (frequency_of element)))
      second
      (lacks_impedance element)

  -- why an element is to blame, where these stand before it
  abbrev pub cause_of : Elements → ElementName × Element → Option ModelFault
  cause_of before entry = cause_by (is_second_control before entry.1) entry.0 entry.1

  -- the first that is to blame among those that follow
  abbrev pub first_blame : Elements → Elements → Result Unit Blame
  first_blame before [] = Ok tt
  first_blame before (entry ∷ rest) = blamed_or (cause_of before entry) (place_of entry.1) (first_blame (before ++ entry ∷ []) rest)
