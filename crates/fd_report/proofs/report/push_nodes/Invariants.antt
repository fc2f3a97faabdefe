use Rattle.std.proofs.Common.{◌≡◌, ◌++◌, drop}
use Rattle.dss_script.specs.fd_outside.Emitted.{pieces_of}
use Rattle.fd_report.specs.Lines.{IsReady, lines_of}
use Rattle.fd_report.specs.Records.{node_records}
use Rattle.fd_report.proofs.report.push_nodes.Given as goal

abbrev pub invariant-loop-k : goal.invariant-loop-k
invariant-loop-k l = record {
  ready : IsReady l.writer;
  -- the records so far and those of the nodes that are left
  records : pieces_of l.records.items ++ lines_of (node_records l.s l.k (drop l.k l.nodes))
      ≡ pieces_of l.fn.records.items ++ lines_of (node_records l.s 0 l.nodes);
}
