-- A centre and a box around it, as the radii take them.
use Rattle.fd_load.specs.Current.{AreVoltages}
use Rattle.fd_slope.specs.Radii.{AreWidths}
use Rattle.fd_slope.specs.declared.around.Around.{Around}

pub record IsAround (b : Around) : Type 0 where
  pub voltages : AreVoltages b.p b.q b.m
  pub widths : AreWidths b.rp b.rq b.rm
