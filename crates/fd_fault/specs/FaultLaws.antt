-- What is so of the circuit of a short circuit.
use Rattle.std.specs.Prelude.{◌≡◌, ℕ, List, None}
use Rattle.dss_ready.specs.dss_circuit.Circuit.{CircuitView}
use Rattle.dss_ready.specs.dss_layout.Layout.{first_too_many}
use Rattle.dss_ready.specs.Ready.{HasPassed}
use Rattle.fd_fault.specs.declared.kind.Kind.{Kind}
use Rattle.fd_fault.specs.FaultCircuit.{fault_circuit_of, fault_elements, first_missing}

-- it has passed the tests of Solve where the scripted circuit has, each node is there, and its unknowns are within the limits
abbrev pub PassedLaw : Type 0
PassedLaw =
    (c : CircuitView) (bus : List ℕ) (kind : Kind) (k : ℕ) → HasPassed c → first_missing c.elements bus kind ≡ None
    → first_too_many (fault_elements c.elements bus kind k) ≡ None → HasPassed (fault_circuit_of c bus kind k)
