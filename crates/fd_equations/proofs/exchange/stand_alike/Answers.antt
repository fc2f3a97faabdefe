use Rattle.std.proofs.Common.{◌<◌, subst}
use Rattle.fd_equations.proofs.Exchanging.{alike_more}
use Rattle.fd_equations.proofs.exchange.stand_alike.Goals as goal

pub loop-k-preserved : goal.loop-k-preserved
loop-k-preserved c =
    let same = c.if-not-stands_alike.false in
    alike_more c.args.old.now c.args.new.now c.loop-k.k c.loop-k-test.true
    (subst (λ n. c.loop-k.k < n) c.if-old-new.false c.loop-k-test.true) c.loop-k.invariant
    (c.stands_alike.ensures.model same) (c.stands_alike.ensures.first same) (c.stands_alike.ensures.second same)
    (c.stands_alike.ensures.magnitude same)
