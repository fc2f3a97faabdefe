use Rattle.std.proofs.Common.{◌≡◌, ◌++◌, ◌-◌, ◌*◌, drop, map}
use Rattle.fd_picture.specs.Strips.{rows_from, strip_by}
use Rattle.fd_picture.proofs.strips.push_strips.Given as goal

-- the strips so far, and those of the nodes that are left
abbrev pub invariant-loop-i : goal.invariant-loop-i
invariant-loop-i l =
    l.strips.items ++ map (λ nodes. strip_by l.panel nodes) (rows_from (l.full - l.i) (drop (42 * l.i) l.nodes))
    ≡ l.initial.strips.items ++ map (λ nodes. strip_by l.panel nodes) (rows_from l.full l.nodes)
