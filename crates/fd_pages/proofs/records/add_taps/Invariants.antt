use Rattle.std.proofs.Common.{◌≡◌, ◌++◌, drop}
use Rattle.std.specs.List.{flat_map, zip}
use Rattle.fd_bases.specs.dss_model.declared.element.Element.{Element}
use Rattle.fd_bases.specs.dss_model.declared.names.ElementName.{ElementName}
use Rattle.fd_outcome.specs.fd_outside.Emitted.{pieces_of}
use Rattle.fd_outcome.specs.fd_report.Lines.{IsReady, lines_of}
use Rattle.fd_outcome.specs.fd_sample.Circuits.{probes_of}
use Rattle.fd_outcome.specs.fd_sample.Probes.{positions_in}
use Rattle.fd_outcome.specs.fd_sample.declared.probe.Probe.{Probe}
use Rattle.fd_outcome.specs.Pages.{controls_of, tap_rows, tap_rows_by}
use Rattle.fd_pages.proofs.records.add_taps.Given as goal

abbrev pub invariant-loop-number : goal.invariant-loop-number
invariant-loop-number l = record {
  writer : IsReady l.writer;
  -- the records so far and those of the probes that are left
  rows : pieces_of l.into.items
      ++ lines_of (flat_map (λ (c : (ElementName × Element) × Probe). tap_rows_by (positions_in l.at) c.0.0 c.1)
      (zip (drop l.number (controls_of l.circuit.elements)) (drop l.number (probes_of l.circuit.elements))))
      ≡ pieces_of l.fn.into.items ++ lines_of (tap_rows l.circuit.elements (positions_in l.at));
}
