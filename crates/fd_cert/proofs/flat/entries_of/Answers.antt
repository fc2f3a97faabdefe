use Rattle.std.proofs.Common.{arith}
use Rattle.fd_cert.proofs.FlatSums.{flat_more}
use Rattle.fd_cert.proofs.flat.entries_of.Goals as goal

pub loop-row-preserved : goal.loop-row-preserved
loop-row-preserved c =
    flat_more c.args.matrix.now c.loop-row.entries.items c.push_row.new.entries.items c.loop-row.row c.row.result.now
    (omega (arith, c.loop-row-test.true, c.size-row-end.ensures.size)) c.row.ensures c.requires.J c.requires.has
    (c.in_ok-push_row.ensures.small c.if-not-branch.false) (c.in_ok-push_row.ensures.made c.if-not-branch.false)
    c.loop-row.invariant
