-- Where the controls of a circuit stand among its elements, and the rows of single controls and banks.
use Rattle.std.specs.Prelude.{◌≡◌, ℕ, Bool, List, [], ◌∷◌, map, slice_get, Option, Some, None}
use Rattle.fd_bases.specs.dss_model.declared.element.Element.{Element}
use Rattle.fd_bases.specs.dss_model.declared.names.ElementName.{ElementName}
use Rattle.fd_bases.specs.dss_layout.Layout.{Elements}
use Rattle.fd_outcome.specs.fd_queue.Controls.{Positions}
use Rattle.fd_outcome.specs.fd_report.Controls.{bank_fields}
use Rattle.fd_outcome.specs.fd_sample.declared.probe.Probe.{Probe}
use Rattle.fd_outcome.specs.Pages.{controls_of, tap_rows_by}

-- the elements at these places are the controls, in the script's order
abbrev pub AreControlPlaces : Elements → List ℕ → Type 0
AreControlPlaces es places = map (slice_get es) places ≡ map Some (controls_of es)

-- the row of the tap of this control, whose probe this is
abbrev pub tap_rows_of : Positions → Option (ElementName × Element) → Probe → List (List (List ℕ))
tap_rows_of at None p = []
tap_rows_of at (Some control) p = tap_rows_by at control.0 p

-- the row of a bank whose state is the first of these
abbrev pub bank_rows_first : ElementName → List Bool → List (List (List ℕ))
bank_rows_first name [] = []
bank_rows_first name (is_closed ∷ closed) = bank_fields name is_closed ∷ []
