use Rattle.fd_load.proofs.VoltageSizes.{nominal_above, nominal_below, voltages_kept}
use Rattle.fd_load.proofs.currents.magnitude_row.Goals as goal

pub excess-requires : goal.excess-requires
excess-requires g c = record { voltages = voltages_kept c.args.p c.args.q c.args.m c.requires.voltages }

pub quotient-requires-clause-positive : goal.quotient-requires-clause-positive
quotient-requires-clause-positive g c = nominal_above c.args.load.now c.requires.load

pub quotient-requires-clause-most : goal.quotient-requires-clause-most
quotient-requires-clause-most g c = nominal_below c.args.load.now c.requires.load
