use Rattle.std.proofs.Common.{◌≡◌, ◌++◌, vec_capacity, take}
use Rattle.fd_network.proofs.extents.extend_reserved.Given as goal

abbrev pub invariant-loop-item : goal.invariant-loop-item
invariant-loop-item g l = record {
  items : l.list.items ≡ l.initial.list.items ++ take l.item-index l.more;
  capacity : vec_capacity l.list ≡ vec_capacity l.initial.list;
}
