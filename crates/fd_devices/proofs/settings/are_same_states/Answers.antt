use Rattle.std.proofs.lemmas.Slice.Eq.{slice_eq-Decides}
use Rattle.std.specs.Cmp.{booleans_Decides}
use Rattle.fd_devices.proofs.settings.are_same_states.Goals as goal

pub returns : goal.returns
returns c = slice_eq-Decides booleans_Decides c.args.closed.now c.args.others.now c.eq.result c.eq.ensures
