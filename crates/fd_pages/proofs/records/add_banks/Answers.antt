use Rattle.std.proofs.Common.{◌∙◌, sym}
use Rattle.fd_outcome.specs.fd_outside.Emitted.{pieces_of}
use Rattle.fd_pages.proofs.Recorded.{bank_next}
use Rattle.fd_pages.proofs.records.add_banks.Goals as goal

pub loop-name-preserved-then-is_bank : goal.loop-name-preserved-then-is_bank
loop-name-preserved-then-is_bank c =
    record {
      writer = c.in_ok-closed.ensures.writer;
      rows = bank_next (c.in-Some.name.now, c.in-Some.element.now) c.next.new.self c.loop-name.name-iterator
          c.loop-name.closed.now _ _ (pieces_of c.loop-name.into.items) _ (sym c.is_bank.ensures ∙ c.if-is_bank.true)
          c.in-Some.ensures.steps c.in_ok-closed.ensures.left c.loop-name.invariant.rows c.in_ok-closed.ensures.rows;
    }
