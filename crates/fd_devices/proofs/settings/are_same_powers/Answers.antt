use Rattle.std.proofs.lemmas.Slice.Eq.{slice_eq-Decides}
use Rattle.fd_devices.proofs.Equal.{Decides-power}
use Rattle.fd_devices.proofs.settings.are_same_powers.Goals as goal

pub returns : goal.returns
returns c = slice_eq-Decides Decides-power c.args.powers.now c.args.others.now c.eq.result c.eq.ensures
