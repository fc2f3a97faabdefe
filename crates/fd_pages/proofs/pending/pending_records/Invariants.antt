use Rattle.std.proofs.Common.{◌≡◌, ◌++◌, drop}
use Rattle.fd_outcome.specs.fd_outside.Emitted.{pieces_of}
use Rattle.fd_outcome.specs.fd_report.Lines.{IsReady}
use Rattle.fd_outcome.specs.Events.{waits}
use Rattle.fd_outcome.specs.Pages.{report_texts}
use Rattle.fd_pages.proofs.pending.pending_records.Given as goal

abbrev pub invariant-loop-entry : goal.invariant-loop-entry
invariant-loop-entry l = record {
  writer : IsReady l.writer;
  -- the records so far and those of the entries that are left
  rows : pieces_of l.records.items ++ report_texts (waits l.circuit (drop l.entry-index l.entries))
      ≡ report_texts (waits l.circuit l.entries);
}
