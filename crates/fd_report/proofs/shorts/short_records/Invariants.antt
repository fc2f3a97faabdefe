use Rattle.std.proofs.Common.{◌≡◌, ◌+◌, ◌++◌, drop}
use Rattle.dss_script.specs.fd_outside.Emitted.{pieces_of}
use Rattle.fd_report.specs.Lines.{IsReady, lines_of}
use Rattle.fd_report.specs.Shorts.{short_records}
use Rattle.fd_report.proofs.shorts.short_records.Given as goal

abbrev pub invariant-loop-k : goal.invariant-loop-k
invariant-loop-k l = record {
  ready : IsReady l.writer;
  -- the records so far and those of the phases that are left
  records : pieces_of l.records.items ++ lines_of (short_records l.s (l.first + l.k) l.bus (drop l.k l.nodes))
      ≡ lines_of (short_records l.s l.first l.bus l.nodes);
}
