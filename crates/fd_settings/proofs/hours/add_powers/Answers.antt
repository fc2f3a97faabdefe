use Rattle.fd_settings.proofs.hours.add_powers.Goals as goal

pub load_power_at-power-requires-clause-own : goal.load_power_at-power-requires-clause-own
load_power_at-power-requires-clause-own c = c.requires.own c.in-Load.load c.in-Load.is
