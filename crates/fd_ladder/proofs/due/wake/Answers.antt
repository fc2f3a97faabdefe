use Rattle.fd_ladder.proofs.Noting.{woken_more}
use Rattle.fd_ladder.proofs.due.wake.Goals as goal

pub loop-place-preserved : goal.loop-place-preserved
loop-place-preserved c other =
    woken_more c.deref-place-items.result.now c.loop-place.place-index other _ _ _ c.loop-place-test.true (c.loop-place.invariant other)
    (c.in_ok-insert.ensures.updates.0 other)
