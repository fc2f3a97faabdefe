use Rattle.std.proofs.Common.{◌≡◌, fold, length, max, take}
use Rattle.fd_picture.proofs.page.most_nodes.Given as goal

abbrev pub invariant-loop-strip : goal.invariant-loop-strip
invariant-loop-strip l = l.most ≡ fold (λ most panel. max most (length panel.nodes)) 7 (take l.strip-index l.strips)
