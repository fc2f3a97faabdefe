-- A regulator by its settings in the script, at a tap.
use Rattle.std.specs.Prelude.{ℕ, ◌-◌, ◌*◌, ◌/◌, ◌^◌, max, pos, ◌+ℤ◌, ◌-ℤ◌}
use Rattle.fd_queue.specs.fd_exact.Rounding.{near_div}
use Rattle.fd_queue.specs.Controls.{TapChanger}
use Rattle.fd_regctl.specs.Regulator.{Regulator}

-- vreg and band in 10^-9 V as the script has them, taps in 10^-5, the winding's nominal voltage in microvolts, ptratio in
-- 10^-9
pub record RegSettings : Type 0 where
  pub changer : TapChanger
  pub vreg : ℕ
  pub band : ℕ
  pub ratio : ℕ
  -- the most steps at once (OpenDSS manual, property maxtapchange)
  pub most : ℕ
  pub nominal : ℕ
  pub min_tap : ℕ
  pub max_tap : ℕ

-- one tap step in whole microvolts at the control, rounded down, and at least 1
abbrev pub volt_step : RegSettings → ℕ
volt_step s = max 1 (s.changer.tap_step * s.nominal * 10 ^ 9 / (10 ^ 5 * s.ratio))

-- the whole steps that are left up to the greatest tap, and down to the least: 0 where the tap lies past that end
abbrev pub room_up : RegSettings → ℕ → ℕ
room_up s tap = (s.max_tap - tap) / s.changer.tap_step

abbrev pub room_down : RegSettings → ℕ → ℕ
room_down s tap = (tap - s.min_tap) / s.changer.tap_step

-- each edge is the exact number rounded once to the nearest microvolt
abbrev pub regulator_at : RegSettings → ℕ → Regulator
regulator_at s tap = record {
  lo = near_div (pos (2 * s.vreg) -ℤ pos s.band) 2000;
  hi = near_div (pos (2 * s.vreg) +ℤ pos s.band) 2000;
  under = λ n. near_div (pos s.vreg -ℤ pos (1000 * (n * volt_step s))) 1000;
  over = λ n. near_div (pos s.vreg +ℤ pos (1000 * (n * volt_step s))) 1000;
  most = s.most;
  room_up = room_up s tap;
  room_down = room_down s tap;
}
