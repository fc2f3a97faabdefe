use Rattle.std.proofs.Common.{◌≡◌, ◌++◌, drop}
use Rattle.fd_ladder.specs.Sections.{sections_from}
use Rattle.fd_ladder.proofs.section.sections_in.Given as goal

-- the sections so far, and those of the elements that are left, are those of all
abbrev pub invariant-loop-place : goal.invariant-loop-place
invariant-loop-place l =
    l.sections.items ++ sections_from l.place (drop l.place l.elements.entries) ≡ sections_from 0 l.elements.entries
