-- Voltages of elements, in whole microvolts: a voltage in 10^-9 kV is one in microvolts.
use Rattle.std.specs.Prelude.{◌^◌, ℤ, pos, ◌*ℤ◌}
use Rattle.dss_model.specs.fd_exact.Rounding.{near_div}
use Rattle.dss_model.specs.fd_exact.RootThree.{root_three}

-- a part, in 10^-9, of a voltage, to the nearest microvolt
abbrev pub part_of : ℤ → ℤ → ℤ
part_of part volts = near_div (part *ℤ volts) (10 ^ 9)

-- the same of a voltage between phases, as that of a phase and rounded once: 10^15 over 10^9 is 10^6
abbrev pub part_over_root_three : ℤ → ℤ → ℤ
part_over_root_three part volts = near_div (part *ℤ volts *ℤ pos (10 ^ 6)) root_three
