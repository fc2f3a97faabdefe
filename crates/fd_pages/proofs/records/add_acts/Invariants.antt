use Rattle.std.proofs.Common.{◌≡◌, ◌++◌, drop, map}
use Rattle.fd_outcome.specs.fd_outside.Emitted.{pieces_of}
use Rattle.fd_outcome.specs.fd_report.Lines.{IsReady, lines_of}
use Rattle.fd_outcome.specs.fd_settle.Rounds.{seen}
use Rattle.fd_outcome.specs.Pages.{act_rows, controls_of}
use Rattle.fd_pages.proofs.records.add_acts.Given as goal

abbrev pub invariant-loop-act : goal.invariant-loop-act
invariant-loop-act l = record {
  writer : IsReady l.writer;
  -- the records so far and those of the acts that are left
  rows : pieces_of l.into.items
      ++ lines_of (act_rows (controls_of l.circuit.elements) (map seen (drop l.act-index l.acts)))
      ≡ pieces_of l.fn.into.items ++ lines_of (act_rows (controls_of l.circuit.elements) (map seen l.acts));
}
