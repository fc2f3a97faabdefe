use Rattle.std.proofs.Common.{◌≡◌, ◌+◌, ◌++◌, drop}
use Rattle.dss_script.specs.fd_outside.Emitted.{pieces_of}
use Rattle.fd_report.specs.Lines.{IsReady, lines_of}
use Rattle.fd_report.specs.Records.{branch_records}
use Rattle.fd_report.proofs.report.push_branches.Given as goal

abbrev pub invariant-loop-k : goal.invariant-loop-k
invariant-loop-k l = record {
  ready : IsReady l.writer;
  -- the records so far and those of the phases that are left
  records : pieces_of l.records.items ++ lines_of (branch_records l.s (l.first + l.k) (drop l.k l.phases))
      ≡ pieces_of l.fn.records.items ++ lines_of (branch_records l.s l.first l.phases);
}
