-- Lemmas that the crates above use.
use Rattle.std.proofs.Common.{ℕ, ◌<◌, length, slice_index_or, All}
use Rattle.dss_ready.specs.dss_model.InRange.{ElementInRange}
use Rattle.dss_ready.specs.dss_model.declared.element.Element.{Element}
use Rattle.dss_ready.specs.dss_model.declared.names.ElementName.{ElementName}
use Rattle.dss_ready.specs.dss_layout.Layout.{layout_of}
use Rattle.dss_ready.specs.dss_circuit.Circuit.{CircuitView}
use Rattle.dss_ready.specs.Ready.{HasPassed}
use Rattle.fd_devices.specs.Standing.{IsReadyAt}
use Rattle.fd_network.proofs.ReadyElements.{ready_at}
pub use Rattle.dss_ready.proofs.CallerLemmas.dss_model as dss_model
pub use Rattle.dss_ready.proofs.CallerLemmas.dss_circuit as dss_circuit
pub use Rattle.dss_ready.proofs.CallerLemmas.dss_layout as dss_layout
pub use Rattle.dss_ready.proofs.CallerLemmas as dss_ready
pub use Rattle.fd_devices.proofs.CallerLemmas.fd_system as fd_system
pub use Rattle.fd_devices.proofs.CallerLemmas as fd_devices

-- an element of a circuit that passed the tests of Solve is ready at its place
pub element_ready : (circuit : CircuitView) → HasPassed circuit → All (λ e. ElementInRange e.1) circuit.elements →
    (place : ℕ) (d : ElementName × Element) → place < length circuit.elements →
    IsReadyAt (layout_of circuit.elements) place (slice_index_or circuit.elements place d).1
element_ready circuit passed in_range place d within = ready_at circuit passed in_range place d within
