use Rattle.std.proofs.Common.{arith}
use Rattle.fd_search.proofs.Changes.{taken_back}
use Rattle.fd_search.proofs.updates.take_back.Goals as goal

pub returns : goal.returns
returns c = λ y long is.
    taken_back c.loop-k.x c.args.x.now c.args.update.now y c.loop-k.auto.x long is
    (λ i h. c.loop-k.invariant.done i (omega arith))
