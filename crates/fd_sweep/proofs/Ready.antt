-- The elements of a circuit that passed the tests of Solve.
use Rattle.std.proofs.Common.{◌≡◌, ℕ, ◌<◌, length, slice_get, Some, subst}
use Rattle.std.specs.Prelude.{All}
use Rattle.std.proofs.lemmas.Option.{get_or_from_slice_get}
use Rattle.fd_network.specs.dss_model.InRange.{ElementInRange}
use Rattle.fd_network.specs.dss_model.declared.element.Element.{Element}
use Rattle.fd_network.specs.dss_model.declared.names.ElementName.{ElementName}
use Rattle.fd_network.specs.dss_circuit.Circuit.{CircuitView}
use Rattle.fd_network.specs.dss_layout.Layout.{layout_of}
use Rattle.fd_network.specs.dss_ready.Ready.{HasPassed}
use Rattle.fd_network.specs.fd_devices.Standing.{IsReadyAt}
use Rattle.fd_network.proofs.CallerLemmas.{element_ready}

-- one at a place is ready there
pub ready_here : (circuit : CircuitView) → HasPassed circuit → All (λ e. ElementInRange e.1) circuit.elements
    → (place : ℕ) (entry : ElementName × Element) → place < length circuit.elements
    → slice_get circuit.elements place ≡ Some entry → IsReadyAt (layout_of circuit.elements) place entry.1
ready_here circuit passed range place entry within here =
    let at = get_or_from_slice_get circuit.elements place entry entry here in
    subst (λ (e : ElementName × Element). IsReadyAt (layout_of circuit.elements) place e.1) at
    (element_ready circuit passed range place entry within)
