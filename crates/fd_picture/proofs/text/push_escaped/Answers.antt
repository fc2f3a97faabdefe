use Rattle.std.proofs.lemmas.List.{take_all}
use Rattle.fd_picture.proofs.text.push_escaped.Goals as goal

pub returns : goal.returns
returns c = rw (take_all c.loop-byte.byte-index c.args.bytes.now c.loop-byte-test.false) at c.loop-byte.invariant
