use Rattle.std.proofs.Common.{◌≡◌, ◌++◌, drop}
use Rattle.fd_sweep.specs.Ladders.{taps_from}
use Rattle.fd_sweep.proofs.positions.taps_of.Given as goal

-- the taps so far, and those of the elements that are left, are those of all
abbrev pub invariant-loop-place : goal.invariant-loop-place
invariant-loop-place l =
    l.all.items ++ taps_from (drop l.place l.elements.entries) l.left ≡ taps_from l.elements.entries l.taps
