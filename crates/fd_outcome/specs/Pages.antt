-- What events are printed as.
use Rattle.std.specs.Prelude.{ℕ, ◌+◌, ◌==◌, Bool, true, false, List, [], ◌∷◌, ◌++◌, filter, map, slice_get, Option}
use Rattle.std.specs.Prelude.{Some, None, if◌then◌else◌}
use Rattle.std.specs.List.{flat_map, zip}
use Rattle.fd_report.specs.dss_model.declared.element.Element.{Element}
use Rattle.fd_report.specs.dss_model.declared.element.Element.TheVariants as the
use Rattle.fd_report.specs.dss_model.declared.names.ElementName.{ElementName}
use Rattle.fd_report.specs.dss_layout.Layout.{Elements, layout_of}
use Rattle.fd_report.specs.fd_queue.Controls.{Positions, tap_at}
use Rattle.fd_report.specs.fd_queue.Machine.{Act}
use Rattle.fd_report.specs.fd_sample.declared.probe.Probe.{Probe}
use Rattle.fd_report.specs.fd_sample.declared.probe.Probe.TheVariants as probe
use Rattle.fd_report.specs.fd_sample.Circuits.{probes_of}
use Rattle.fd_report.specs.fd_sample.Regulators.{changer_of}
use Rattle.fd_report.specs.fd_queue.declared.entry.Entry.{Entry}
use Rattle.fd_report.specs.Controls.{act_fields, bank_fields, pending_fields, tap_fields}
use Rattle.fd_report.specs.Ladders.{ladder_fields}
use Rattle.fd_report.specs.declared.controls.Position.{Position}
use Rattle.fd_report.specs.declared.controls.Position.TheVariants as position
use Rattle.fd_report.specs.Lines.{line_of, lines_of}
use Rattle.fd_report.specs.Records.{report_of}
use Rattle.fd_report.specs.Solutions.{SolutionView, solution_of}
use Rattle.fd_outcome.specs.Settles.{Round, Settle, SettleEnd, settled, failed, without_certificate}
use Rattle.fd_outcome.specs.Events.{Event, asked, settle, waits, swept, row, line}

-- ---- controls

abbrev pub is_control : Element → Bool
is_control (the.RegControl control) = true
is_control (the.CapControl control) = true
is_control other = false

-- the controls of a circuit with their names, in the script's order, in which they are numbered
abbrev pub controls_of : Elements → Elements
controls_of es = filter (λ e. is_control e.1) es

-- where a control's device stands: its tap, or a bank, of which 0 means open
abbrev pub position_of : Element → ℕ → Position
position_of (the.CapControl control) n = (if n == 0 then position.Open else position.Closed)
position_of other n = position.Tap n

-- the row of an act of one of these controls
abbrev pub act_rows_by : Option (ElementName × Element) → Act → List (List (List ℕ))
act_rows_by None a = []
act_rows_by (Some e) a = act_fields a.time e.0 a.steps (position_of e.1 a.after) ∷ []

abbrev pub act_rows : Elements → List Act → List (List (List ℕ))
act_rows controls acts = flat_map (λ a. act_rows_by (slice_get controls a.control) a) acts

-- the row of a regulator's tap at these positions
abbrev pub tap_rows_by : Positions → ElementName → Probe → List (List (List ℕ))
tap_rows_by at name (probe.Regulator p) = tap_fields name (tap_at at (changer_of p)) ∷ []
tap_rows_by at name (probe.Bank p) = []

-- a row for each regulator, in the script's order
abbrev pub tap_rows : Elements → Positions → List (List (List ℕ))
tap_rows es at = flat_map (λ c. tap_rows_by at c.0.0 c.1) (zip (controls_of es) (probes_of es))

-- the row of an entry of one of these controls
abbrev pub pending_rows_by : Option (ElementName × Element) → Entry → List (List (List ℕ))
pending_rows_by None e = []
pending_rows_by (Some c) e = pending_fields e.time c.0 e.up ∷ []

-- a row for each entry, in the order of the queue
abbrev pub pending_rows : Elements → List Entry → List (List (List ℕ))
pending_rows controls es = flat_map (λ e. pending_rows_by (slice_get controls e.control) e) es

-- ---- banks

abbrev pub is_bank : Element → Bool
is_bank (the.Capacitor bank) = true
is_bank other = false

-- the banks of a circuit with their names, in the script's order
abbrev pub banks_of : Elements → Elements
banks_of es = filter (λ e. is_bank e.1) es

-- a row for each bank, by whether it is closed
abbrev pub bank_rows_by : Elements → List Bool → List (List (List ℕ))
bank_rows_by banks closed = map (λ b. bank_fields b.0.0 b.1) (zip banks closed)

abbrev pub bank_rows : Elements → Positions → List (List (List ℕ))
bank_rows es at = bank_rows_by (banks_of es) at.closed

-- ---- the report

-- the numbers of a round
abbrev pub solution_in : Round → SolutionView
solution_in r = solution_of r.centre r.radii r.boxes r.mismatches

-- a round by its number in the settle, and then its acts
abbrev pub round_rows : Settle → ℕ → Round → List (List (List ℕ))
round_rows s k r =
    report_of (layout_of s.circuit.elements) s.number s.hour k (solution_in r)
    ++ act_rows (controls_of s.circuit.elements) r.acts

-- rounds of which so many went before
abbrev pub rounds_rows : Settle → ℕ → List Round → List (List (List ℕ))
rounds_rows s k [] = []
rounds_rows s k (r ∷ rounds) = round_rows s k r ++ rounds_rows s (k + 1) rounds

-- the taps, and then the banks, stand behind a settle that ends well
abbrev pub end_rows : Settle → SettleEnd → List (List (List ℕ))
end_rows s settled = tap_rows s.circuit.elements s.left ++ bank_rows s.circuit.elements s.left
end_rows s (failed f) = []
end_rows s (without_certificate r f) = []

abbrev pub report_rows : Settle → List (List (List ℕ))
report_rows s = rounds_rows s 0 s.rounds ++ end_rows s s.end

-- the text of each record of an event
abbrev pub report_texts : Event → List (List ℕ)
report_texts (asked name) = []
report_texts (settle s) = lines_of (report_rows s)
report_texts (waits c es) = lines_of (pending_rows (controls_of c.elements) es)
report_texts (swept c m ladder) = line_of (ladder_fields ladder) ∷ []
report_texts (row fields) = line_of fields ∷ []
report_texts (line text) = (text ++ 10 ∷ []) ∷ []
