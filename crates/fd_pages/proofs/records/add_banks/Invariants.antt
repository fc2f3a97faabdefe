use Rattle.std.proofs.Common.{◌≡◌, ◌++◌}
use Rattle.fd_outcome.specs.fd_outside.Emitted.{pieces_of}
use Rattle.fd_outcome.specs.fd_report.Lines.{IsReady, lines_of}
use Rattle.fd_outcome.specs.fd_sample.Probes.{positions_in}
use Rattle.fd_outcome.specs.Pages.{bank_rows, bank_rows_by, banks_of}
use Rattle.fd_pages.proofs.records.add_banks.Given as goal

abbrev pub invariant-loop-name : goal.invariant-loop-name
invariant-loop-name l = record {
  writer : IsReady l.writer;
  -- the records so far and those of the banks that are left
  rows : pieces_of l.into.items ++ lines_of (bank_rows_by (banks_of l.name-iterator) l.closed)
      ≡ pieces_of l.fn.into.items ++ lines_of (bank_rows l.circuit.elements (positions_in l.at));
}
