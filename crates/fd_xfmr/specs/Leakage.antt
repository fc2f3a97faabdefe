-- The leakage impedance of a transformer and its ratio, at its taps.
use Rattle.std.specs.Prelude.{◌*◌, ◌≤◌, ◌^◌, ◌≡◌, ℤ, pos, ◌+ℤ◌, ◌*ℤ◌, ◌<ℤ◌, ◌≤ℤ◌, nat_abs, ◌⊎◌}
use Rattle.fd_system.specs.fd_exact.Rounding.{floor_div}
use Rattle.fd_system.specs.fd_exact.States.{part}
use Rattle.fd_system.specs.fd_exact.Ranges.{Between, UpTo}
use Rattle.fd_system.specs.fd_arith.declared.terms.TapPair.{TapPair}
use Rattle.fd_xfmr.specs.declared.data.XfmrData.{XfmrData}
use Rattle.fd_xfmr.specs.declared.leakage.Coefficients.{Coefficients}
use Rattle.fd_xfmr.specs.Windings.{first_volts, kv1, kv2, second_volts}

-- ---- at nominal tap

-- a percentage of U2^2 / S in 10^-12 ohm, rounded down: the percentage and the kVA in 10^-9, S = kVA / phases, U2 in microvolts
abbrev pub nominal_leakage : XfmrData → ℤ → ℤ
nominal_leakage d percent = floor_div (percent *ℤ pos (nat_abs (second_volts d) * nat_abs (second_volts d) * d.phases)) (nat_abs d.kva * 10 ^ 5)

-- Zn = (%R1 + %R2 + j XHL) / 100 times U2^2 / S
abbrev pub percent_resistance : XfmrData → ℤ
percent_resistance d = part d.pct_r 0 +ℤ part d.pct_r 1

abbrev pub nominal_resistance : XfmrData → ℤ
nominal_resistance d = nominal_leakage d (percent_resistance d)

abbrev pub nominal_reactance : XfmrData → ℤ
nominal_reactance d = nominal_leakage d d.xhl

-- ---- at the taps

-- the ratio U2 t2 / (U1 t1), and Zn t2^2 in 10^-22 ohm: taps are in 10^-5
abbrev pub coefficients_of : XfmrData → TapPair → Coefficients
coefficients_of d t = record {
  ratio = second_volts d *ℤ pos t.second;
  ratio_over = first_volts d *ℤ pos t.first;
  r = nominal_resistance d *ℤ pos (t.second * t.second);
  x = nominal_reactance d *ℤ pos (t.second * t.second);
}

-- ---- conditions

-- one or three phases, voltages from 0.01 to 1000 kilovolt, a power from 0.001 to 10^6 kilovolt-ampere, percentages from 0 to 100
pub record IsXfmr (d : XfmrData) : Type 0 where
  pub phases : (d.phases ≡ 1) ⊎ (d.phases ≡ 3)
  pub kv1 : Between (10 ^ 7) (10 ^ 12) (kv1 d)
  pub kv2 : Between (10 ^ 7) (10 ^ 12) (kv2 d)
  pub kva : Between (10 ^ 6) (10 ^ 15) d.kva
  pub pct_r1 : UpTo (10 ^ 11) (part d.pct_r 0)
  pub pct_r2 : UpTo (10 ^ 11) (part d.pct_r 1)
  pub xhl : UpTo (10 ^ 11) d.xhl

-- taps from 0.5 to 2
pub record AreTaps (t : TapPair) : Type 0 where
  pub first_least : 50000 ≤ t.first
  pub first_most : t.first ≤ 200000
  pub second_least : 50000 ≤ t.second
  pub second_most : t.second ≤ 200000

-- the sizes of the numbers
pub record AreWithin (c : Coefficients) : Type 0 where
  pub ratio : nat_abs c.ratio ≤ 10 ^ 36
  pub over_least : pos 0 <ℤ c.ratio_over
  pub over_most : c.ratio_over ≤ℤ pos (10 ^ 32)
  pub r : nat_abs c.r ≤ 10 ^ 36
  pub x : nat_abs c.x ≤ 10 ^ 36
