use Rattle.std.proofs.Common.{◌≡◌, Some, filter, map, slice_get, take}
use Rattle.fd_bases.specs.dss_model.declared.element.Element.{Element}
use Rattle.fd_bases.specs.dss_model.declared.names.ElementName.{ElementName}
use Rattle.fd_outcome.specs.Pages.{is_control}
use Rattle.fd_pages.proofs.records.control_places.Given as goal

-- the places of the controls so far
abbrev pub invariant-loop-place : goal.invariant-loop-place
invariant-loop-place l =
    map (slice_get l.circuit.elements) l.places.items
    ≡ map Some (filter (λ (e : ElementName × Element). is_control e.1) (take l.place l.circuit.elements))
