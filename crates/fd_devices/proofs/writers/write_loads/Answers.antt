use Rattle.std.proofs.Common.{rules}
use Rattle.std.specs.List.{All}
use Rattle.fd_elements.specs.fd_load.Current.{IsPast}
use Rattle.fd_devices.specs.Building.{DeviceFits}
use Rattle.fd_devices.specs.Devices.{loads}
use Rattle.fd_devices.proofs.Fitting.{fit_loads, fits_by}
use Rattle.fd_devices.proofs.Within.{loads_within}
use Rattle.fd_devices.proofs.writers.write_loads.Goals as goal

pub returns-clause-fits : goal.returns-clause-fits
returns-clause-fits c =
    let us = c.args.into.now.loads.items in
    let below : All (λ u. ¬ (IsPast u.load)) us = search rules in
    fits_by (loads us) (loads_within us c.requires.usable below) below

pub returns-then-not-are_in_limits-clause-range : goal.returns-then-not-are_in_limits-clause-range
returns-then-not-are_in_limits-clause-range c =
    let us = c.args.into.now.loads.items in
    let past : ¬ (All (λ u. ¬ (IsPast u.load)) us) = search rules in
    let misfit : ¬ (DeviceFits (loads us)) = λ f. past (fit_loads (loads us) f) in
    search rules
