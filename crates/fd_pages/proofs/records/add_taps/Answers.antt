use Rattle.std.proofs.Common.{◌≤◌, ◌∙◌, arith, length, subst}
use Rattle.fd_outcome.specs.fd_outside.Emitted.{pieces_of}
use Rattle.fd_outcome.specs.fd_sample.Circuits.{probes_of}
use Rattle.fd_outcome.specs.fd_sample.Probes.{positions_in}
use Rattle.fd_outcome.specs.Pages.{controls_of}
use Rattle.fd_pages.proofs.Recorded.{no_rows, taps_end, taps_next}
use Rattle.fd_pages.proofs.records.add_taps.Goals as goal

pub loop-number-preserved : goal.loop-number-preserved
loop-number-preserved c =
    let es = c.args.circuit.now.elements in
    record {
      writer = c.in_ok-add_tap.ensures.writer;
      rows = taps_next (positions_in c.args.at.now) (controls_of es) (probes_of es) c.args.probes.now
          c.loop-number.number _ _ _ (pieces_of c.loop-number.into.items) _ c.requires.probes c.loop-number-test.true
          (omega arith)
          c.loop-number.invariant.rows c.in_ok-add_tap.ensures.rows;
    }

pub returns-clause-rows : goal.returns-clause-rows
returns-clause-rows c =
    let es = c.args.circuit.now.elements in
    let past : length (probes_of es) ≤ c.loop-number.number =
    subst (λ ps. length ps ≤ c.loop-number.number) c.requires.probes c.loop-number-test.false in
    no_rows (pieces_of c.loop-number.into.items) _
    (taps_end (positions_in c.args.at.now) (controls_of es) (probes_of es) c.loop-number.number past)
    ∙ c.loop-number.invariant.rows
