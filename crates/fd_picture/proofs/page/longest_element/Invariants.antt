use Rattle.std.proofs.Common.{◌≡◌, fold, length, max, take}
use Rattle.fd_picture.proofs.page.longest_element.Given as goal

abbrev pub invariant-loop-entry : goal.invariant-loop-entry
invariant-loop-entry l = l.longest ≡ fold (λ longest entry. max longest (length entry.element)) 0 (take l.entry-index l.entries)
