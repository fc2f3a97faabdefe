use Rattle.std.proofs.lemmas.List.{take_all}
use Rattle.fd_picture.proofs.page.longest_element.Goals as goal

pub returns : goal.returns
returns c = rw (take_all c.loop-entry.entry-index c.args.entries.now c.loop-entry-test.false) at c.loop-entry.invariant
