use Rattle.std.proofs.lemmas.List.{take_all}
use Rattle.fd_picture.proofs.page.longest_bus.Goals as goal

pub returns : goal.returns
returns c = rw (take_all c.loop-node.node-index c.args.nodes.now c.loop-node-test.false) at c.loop-node.invariant
