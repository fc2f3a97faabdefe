use Rattle.std.proofs.Common.{◌≡◌, ◌++◌, drop}
use Rattle.fd_picture.specs.Panels.{node_text}
use Rattle.fd_picture.specs.Texts.{numbered}
use Rattle.fd_picture.proofs.panel.push_marks.Given as goal

-- the text so far, and that of the nodes that are still to come
abbrev pub invariant-loop-place : goal.invariant-loop-place
invariant-loop-place l =
    l.text.items ++ numbered (λ place node. node_text l.bases l.per_unit l.axis place node) l.place (drop l.place l.nodes)
    ≡ l.initial.text.items ++ numbered (λ place node. node_text l.bases l.per_unit l.axis place node) 0 l.nodes
