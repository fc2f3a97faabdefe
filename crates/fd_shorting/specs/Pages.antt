-- What stands behind the settle of a short circuit: a record for each phase of the fault.
use Rattle.std.specs.Prelude.{ℕ, ◌-◌, List, [], length, map, slice_get, Option, Some, None}
use Rattle.fd_fault.specs.dss_model.declared.bus.Bus.{Bus}
use Rattle.fd_fault.specs.dss_model.declared.element.Element.{Element}
use Rattle.fd_fault.specs.dss_model.declared.element.Element.TheVariants as the
use Rattle.fd_fault.specs.dss_model.declared.names.ElementName.{ElementName}
use Rattle.fd_fault.specs.dss_layout.Layout.{Elements, first_branch, layout_of}
use Rattle.fd_solving.specs.fd_report.Shorts.{short_records}
use Rattle.fd_solving.specs.fd_outcome.Calls.{Style, report_with}
use Rattle.fd_solving.specs.fd_outcome.Events.{Event, row}
use Rattle.fd_solving.specs.fd_outcome.Pages.{solution_in}
use Rattle.fd_solving.specs.fd_outcome.Settles.{Round, Settle, SettleEnd, failed, settled, without_certificate}

-- ---- the line of the short circuit, which stands last in its circuit

abbrev pub last_place : Elements → ℕ
last_place elements = length elements - 1

-- the bus at which a line begins
abbrev pub line_bus : Element → Option Bus
line_bus (the.Line l) = l.bus1
line_bus other = None

-- the currents that leave the nodes of its bus into it, in a round: those of its branch phases
abbrev pub rows_at : Elements → Element → Option Bus → Option Round → List (List (List ℕ))
rows_at elements element (Some bus) (Some round) =
    short_records (solution_in round)
    (first_branch (layout_of elements) (last_place elements) element) bus.name bus.nodes
rows_at elements element (Some bus) None = []
rows_at elements element None round = []

abbrev pub rows_of : Elements → Option (ElementName × Element) → Option Round → List (List (List ℕ))
rows_of elements (Some entry) round = rows_at elements entry.1 (line_bus entry.1) round
rows_of elements None round = []

-- only where the settle ended well
abbrev pub short_rows_by : Settle → SettleEnd → List (List (List ℕ))
short_rows_by s settled =
    rows_of s.circuit.elements (slice_get s.circuit.elements (last_place s.circuit.elements)) (slice_get s.rounds 0)
short_rows_by s (failed f) = []
short_rows_by s (without_certificate r f) = []

abbrev pub short_rows : Settle → List (List (List ℕ))
short_rows s = short_rows_by s s.end

abbrev pub its_phases : Settle → List Event
its_phases s = map row (short_rows s)

-- the report in which a settle is printed with them
abbrev pub short_report : Style
short_report = report_with its_phases
