use Rattle.std.proofs.lemmas.List.{take_all}
use Rattle.fd_picture.proofs.page.most_nodes.Goals as goal

pub returns : goal.returns
returns c = rw (take_all c.loop-strip.strip-index c.args.strips.now c.loop-strip-test.false) at c.loop-strip.invariant
