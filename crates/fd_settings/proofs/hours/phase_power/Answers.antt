use Rattle.std.proofs.Common.{subst}
use Rattle.std.specs.Int.{w128}
use Rattle.std.proofs.lemmas.Int.{to_z-of_z}
use Rattle.fd_devices.specs.fd_elements.Powers.{IsLoadPower}
use Rattle.fd_settings.proofs.PowerOf.{power_is}
use Rattle.fd_settings.proofs.hours.phase_power.Goals as goal

pub returns-clause-value : goal.returns-clause-value
returns-clause-value c =
    let is = subst (λ point. IsLoadPower c.args.load.now point c.load_power.result) (to_z-of_z w128 c.args.point c.ranges.point) c.load_power.ensures.power in
    power_is c.args.load.now c.args.point c.load_power.result c.requires.load.pf is
