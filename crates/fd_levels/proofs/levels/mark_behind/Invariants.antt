use Rattle.std.proofs.Common.{◌≡◌, [], drop}
use Rattle.fd_levels.specs.Marking.{marked_behind, marking}
use Rattle.fd_levels.proofs.levels.mark_behind.Given as goal

-- what the buses that are left make of it is what all make
abbrev pub invariant-loop-bus : goal.invariant-loop-bus
invariant-loop-bus l =
    marked_behind l.level l.behind (drop l.bus-index l.front) (marking l.levels l.found.items)
    ≡ marked_behind l.level l.behind l.front (marking l.fn.levels [])
