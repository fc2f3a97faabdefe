use Rattle.std.proofs.Common.{◌≡◌, ◌++◌, drop}
use Rattle.fd_bases.specs.Bases.{bases_of}
use Rattle.fd_outcome.specs.fd_outside.Emitted.{pieces_of}
use Rattle.fd_outcome.specs.fd_report.Lines.{IsReady}
use Rattle.fd_pages.specs.Bases.{base_texts}
use Rattle.fd_pages.proofs.records.base_records.Given as goal

abbrev pub invariant-loop-base : goal.invariant-loop-base
invariant-loop-base l = record {
  writer : IsReady l.writer;
  -- the records so far and those of the bases that are left
  rows : pieces_of l.into.items ++ base_texts (drop l.base-index l.base-items) ≡ base_texts (bases_of l.circuit);
}
