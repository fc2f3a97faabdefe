use Rattle.std.proofs.Common.{◌≡◌, fold, max, take}
use Rattle.fd_picture.specs.Pages.{longest_bus}
use Rattle.fd_picture.proofs.page.label_length.Given as goal

abbrev pub invariant-loop-strip : goal.invariant-loop-strip
invariant-loop-strip l = l.longest ≡ fold (λ longest panel. max longest (longest_bus panel.nodes)) 0 (take l.strip-index l.strips)
