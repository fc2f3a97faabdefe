use Rattle.std.proofs.Common.{◌≡◌, ◌++◌, take}
use Rattle.fd_pattern.specs.PatternPlaces.{cross}
use Rattle.fd_pattern.proofs.places.add_cross.Given as goal

abbrev pub invariant-loop-row : goal.invariant-loop-row
invariant-loop-row l = l.places.items ≡ l.initial.places.items ++ cross (take l.row-index l.rows) l.cols
