use Rattle.std.proofs.Common.{ap, sym, set}
use Rattle.std.specs.Int.{w128}
use Rattle.std.proofs.lemmas.Int.{to_z-of_z}
use Rattle.std.proofs.lemmas.List.{set_past}
use Rattle.fd_rungs.proofs.state.put.Goals as goal

pub returns-then-place-x : goal.returns-then-place-x
returns-then-place-x c = ap (set c.args.x.now c.args.place) (to_z-of_z w128 c.args.z c.ranges.z)

pub returns-else-place-x : goal.returns-else-place-x
returns-else-place-x c = sym (set_past c.args.x.now c.args.place c.args.z c.if-place-x.false)
