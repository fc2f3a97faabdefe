use Rattle.std.proofs.Common.{◌≡◌, ◌++◌, drop}
use Rattle.fd_picture.specs.Pages.{entry_text}
use Rattle.fd_picture.specs.Texts.{numbered}
use Rattle.fd_picture.proofs.page.push_entries.Given as goal

-- the text so far, and that of the rows that are still to come
abbrev pub invariant-loop-k : goal.invariant-loop-k
invariant-loop-k l =
    l.text.items ++ numbered (λ k entry. entry_text l.top k entry) l.k (drop l.k l.entries)
    ≡ l.initial.text.items ++ numbered (λ k entry. entry_text l.top k entry) 0 l.entries
