use Rattle.std.proofs.Common.{◌∙◌, arith}
use Rattle.fd_inverse.proofs.HeldStarts.{unit_more}
use Rattle.fd_inverse.proofs.cells.write_unit.Goals as goal

pub loop-row-preserved : goal.loop-row-preserved
loop-row-preserved c =
    unit_more c.args.n c.args.cells.now c.loop-row.cells c.loop-row.row (c.loop-row.auto.cells ∙ c.requires.shape)
    (omega (arith, c.loop-row-test.true)) c.loop-row.invariant
