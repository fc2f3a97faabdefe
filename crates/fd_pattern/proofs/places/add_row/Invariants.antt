use Rattle.std.proofs.Common.{◌≡◌, ◌++◌, map, take}
use Rattle.fd_pattern.proofs.places.add_row.Given as goal

abbrev pub invariant-loop-col : goal.invariant-loop-col
invariant-loop-col l = l.places.items ≡ l.initial.places.items ++ map (λ col. (l.row, col)) (take l.col-index l.cols)
