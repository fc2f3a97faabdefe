use Rattle.std.proofs.Common.{sym, rules}
use Rattle.fd_rungs.proofs.Walks.{moving}
use Rattle.fd_rungs.proofs.iterate.are_still.Goals as goal

pub returns-then-not-is_still_at : goal.returns-then-not-is_still_at
returns-then-not-is_still_at c =
    sym (moving c.args.x.now c.args.y.now c.loop-k.k c.args.nodes c.loop-k-test.true (search rules))
