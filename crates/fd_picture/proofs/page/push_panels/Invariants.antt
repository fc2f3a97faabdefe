use Rattle.std.proofs.Common.{◌≡◌, ◌++◌, drop}
use Rattle.fd_picture.specs.Pages.{panel_at}
use Rattle.fd_picture.specs.Texts.{numbered}
use Rattle.fd_picture.proofs.page.push_panels.Given as goal

-- the text so far, and that of the panels that are still to come
abbrev pub invariant-loop-k : goal.invariant-loop-k
invariant-loop-k l =
    l.text.items ++ numbered (λ k panel. panel_at l.bases l.scale l.grid k panel) l.k (drop l.k l.strips)
    ≡ l.initial.text.items ++ numbered (λ k panel. panel_at l.bases l.scale l.grid k panel) 0 l.strips
