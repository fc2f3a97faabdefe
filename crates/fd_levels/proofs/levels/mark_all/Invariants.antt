use Rattle.std.proofs.Common.{◌≡◌, drop}
use Rattle.fd_levels.specs.Marking.{marked_all, marking}
use Rattle.fd_levels.proofs.levels.mark_all.Given as goal

-- what the buses that are left make of it is what all make
abbrev pub invariant-loop-bus : goal.invariant-loop-bus
invariant-loop-bus l =
    marked_all l.level (drop l.bus-index l.buses) (marking l.levels l.found.items)
    ≡ marked_all l.level l.buses (marking l.fn.levels l.fn.found.items)
