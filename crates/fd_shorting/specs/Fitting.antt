-- The records of a bus fit the unknowns.
use Rattle.std.specs.Prelude.{◌≡◌, ℕ, ◌+◌, ◌*◌, ◌≤◌, length, Some}
use Rattle.fd_fault.specs.dss_model.declared.bus.Bus.{Bus}
use Rattle.fd_fault.specs.dss_model.declared.element.Element.{Element}
use Rattle.fd_fault.specs.dss_circuit.Circuit.{CircuitView}
use Rattle.fd_fault.specs.dss_layout.Layout.{first_branch, layout_of, size_of}
use Rattle.fd_shorting.specs.Pages.{line_bus}

-- where the element at this place is a line, each node of its first bus has a branch phase among the unknowns
abbrev pub AreBusesFit : CircuitView → ℕ → Element → Type 0
AreBusesFit c place element =
    (bus : Bus) → line_bus element ≡ Some bus
    → 2 * (first_branch (layout_of c.elements) place element + length bus.nodes) ≤ size_of (layout_of c.elements)
