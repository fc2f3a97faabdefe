-- The circuit of a short circuit: without what draws current and without controls, with a line from the bus to ground.
use Rattle.std.specs.Prelude.{◌≡◌, ℕ, pos, Bool, true, false, not, List, [], ◌∷◌, ◌++◌, filter, length, Option, Some, None, IsSome, if◌then◌else◌}
use Rattle.std.specs.List.{list_any}
use Rattle.dss_ready.specs.dss_model.declared.command.Place.{Place}
use Rattle.dss_ready.specs.dss_model.declared.element.Element.{Element}
use Rattle.dss_ready.specs.dss_model.declared.element.Element.TheVariants as the
use Rattle.dss_ready.specs.dss_model.declared.line.Line.{Line}
use Rattle.dss_ready.specs.dss_model.declared.line_constants.LineConstants.{LineConstants}
use Rattle.dss_ready.specs.dss_model.declared.names.ElementName.{ElementName}
use Rattle.dss_ready.specs.dss_model.declared.words.DataForm.TheVariants as form
use Rattle.dss_ready.specs.dss_model.Defaults.{fresh_constants, fresh_line}
use Rattle.dss_ready.specs.dss_layout.declared.nodes.NodeName.{NodeName}
use Rattle.dss_ready.specs.dss_layout.Layout.{first_too_many, nodes_of as circuit_nodes}
use Rattle.dss_ready.specs.dss_layout.Nodes.{same_node}
use Rattle.dss_ready.specs.dss_circuit.Circuit.{CircuitView, Elements}
use Rattle.fd_fault.specs.declared.fault.CircuitFault.{CircuitFault}
use Rattle.fd_fault.specs.declared.fault.CircuitFault.TheVariants as fault
use Rattle.fd_fault.specs.declared.kind.Kind.{Kind}
use Rattle.fd_fault.specs.Kinds.{grounds_of, nodes_of}
use Rattle.fd_fault.specs.ShortNames.{IsShortName, line_name}

-- ---- the nodes

-- the node of this number at the bus isn't among these
abbrev pub is_missing : List NodeName → List ℕ → ℕ → Bool
is_missing nodes bus number = not (list_any (same_node (record { bus = bus; number = number })) nodes)

-- the first of these numbers without a node
abbrev pub missing_in : List NodeName → List ℕ → List ℕ → Option ℕ
missing_in nodes bus [] = None
missing_in nodes bus (n ∷ ns) = if is_missing nodes bus n then Some n else missing_in nodes bus ns

-- the first node of the bus that is to be joined to ground and isn't a node of the scripted circuit, before anything is dropped of it
abbrev pub first_missing : Elements → List ℕ → Kind → Option ℕ
first_missing elements bus kind = missing_in (circuit_nodes elements) bus (nodes_of kind)

-- ---- the elements

-- Loads, Capacitors and their controls, and those of taps, are dropped
abbrev pub stays : Element → Bool
stays (the.Load load) = false
stays (the.Capacitor bank) = false
stays (the.RegControl control) = false
stays (the.CapControl control) = false
stays (the.Vsource source) = true
stays (the.Linecode code) = true
stays (the.Line line) = true
stays (the.Transformer xfmr) = true
stays (the.Loadshape shape) = true

abbrev pub stripped : Elements → Elements
stripped elements = filter (λ e. stays e.1) elements

-- ---- the line

-- it stands in no file
abbrev pub nowhere : Place
nowhere = record { file = []; line = 0 }

-- the impedance of both sequences is zero, and there is no charging
abbrev pub no_impedance : LineConstants
no_impedance = record fresh_constants {
  r1 = Some (pos 0);
  x1 = Some (pos 0);
  r0 = Some (pos 0);
  x0 = Some (pos 0);
  form = Some form.Sequence;
}

-- from the nodes of the bus to ground
abbrev pub fault_line : List ℕ → Kind → Line
fault_line bus kind = record (fresh_line nowhere) {
  bus1 = Some (record { name = bus; nodes = nodes_of kind });
  bus2 = Some (record { name = bus; nodes = grounds_of kind });
  phases = length (nodes_of kind);
  constants = no_impedance;
}

abbrev pub fault_entry : List ℕ → Kind → ℕ → ElementName × Element
fault_entry bus kind k = (line_name k, the.Line (fault_line bus kind))

-- ---- the circuit

-- the line stands last, under the name of this number
abbrev pub fault_elements : Elements → List ℕ → Kind → ℕ → Elements
fault_elements elements bus kind k = stripped elements ++ fault_entry bus kind k ∷ []

abbrev pub fault_circuit_of : CircuitView → List ℕ → Kind → ℕ → CircuitView
fault_circuit_of c bus kind k = record c { elements = fault_elements c.elements bus kind k }

-- each node is there, and the line has the first name that no Line has
pub record IsFaultCircuit (c : CircuitView) (bus : List ℕ) (kind : Kind) (made : CircuitView) : Type 0 where
  pub nodes : first_missing c.elements bus kind ≡ None
  pub number : ℕ
  pub name : IsShortName c.elements number
  pub is : made ≡ fault_circuit_of c bus kind number

-- with the line there are more nodes and branch phases than may be
pub record PassesLimit (c : CircuitView) (bus : List ℕ) (kind : Kind) : Type 0 where
  pub nodes : first_missing c.elements bus kind ≡ None
  pub number : ℕ
  pub name : IsShortName c.elements number
  pub past : IsSome (first_too_many (fault_elements c.elements bus kind number))

-- why there is none; want of memory is free
abbrev pub IsCircuitFault : CircuitView → List ℕ → Kind → CircuitFault → Type 0
IsCircuitFault c bus kind (fault.NoNode number) = first_missing c.elements bus kind ≡ Some number
IsCircuitFault c bus kind fault.TooMany = PassesLimit c bus kind
IsCircuitFault c bus kind fault.NoMemory = Unit {0}

-- these elements pass a limit on the unknowns; want of memory is free
abbrev pub IsPast : Elements → CircuitFault → Type 0
IsPast elements (fault.NoNode number) = ⊥
IsPast elements fault.TooMany = IsSome (first_too_many elements)
IsPast elements fault.NoMemory = Unit {0}
