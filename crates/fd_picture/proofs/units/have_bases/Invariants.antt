use Rattle.std.proofs.Common.{◌≡◌, is_some, take, true}
use Rattle.std.specs.List.{list_all}
use Rattle.fd_picture.specs.Units.{per_unit_at}
use Rattle.fd_picture.proofs.units.have_bases.Given as goal

abbrev pub invariant-loop-node : goal.invariant-loop-node
invariant-loop-node l = list_all (λ node. is_some (per_unit_at l.bases node)) (take l.node-index l.nodes) ≡ true
