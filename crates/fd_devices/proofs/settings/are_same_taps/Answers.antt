use Rattle.std.proofs.lemmas.Slice.Eq.{slice_eq-Decides}
use Rattle.fd_devices.proofs.Equal.{Decides-taps}
use Rattle.fd_devices.proofs.settings.are_same_taps.Goals as goal

pub returns : goal.returns
returns c = slice_eq-Decides Decides-taps c.args.taps.now c.args.others.now c.eq.result c.eq.ensures
