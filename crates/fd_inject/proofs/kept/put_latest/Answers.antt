use Rattle.std.proofs.Common.{◌≡◌, arith}
use Rattle.fd_inject.proofs.Pairs.{latest_few, latest_four}
use Rattle.fd_inject.proofs.kept.put_latest.Goals as goal

pub returns-then-len-le-MOST_PAIRS-clause-put : goal.returns-then-len-le-MOST_PAIRS-clause-put
returns-then-len-le-MOST_PAIRS-clause-put c =
    latest_few c.args.pair c.args.pairs.now.items c.push.new.self.items
    (omega (arith, c.in_ok-push.ensures.len, c.len.ensures, c.if-len-le-MOST_PAIRS.true)) c.in_ok-push.ensures.items

pub returns-clause-put : goal.returns-clause-put
returns-clause-put c =
    latest_four c.args.pair c.args.pairs.now.items c.push.new.self.items c.remove.new.self.items
    (omega (arith, c.requires, c.in_ok-push.ensures.len, c.len.ensures, c.if-len-le-MOST_PAIRS.false))
    c.in_ok-push.ensures.items c.remove.ensures.items
