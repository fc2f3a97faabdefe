-- The impedances of a source by its short-circuit powers.
use Rattle.std.specs.Prelude.{ℕ, zero, suc, ◌+◌, ◌*◌, ◌/◌, ◌%◌, ◌≤◌, ◌^◌, ◌≡◌, ℤ, pos, ◌≤ℤ◌, nat_abs, nat_le, Bool, IsTrue, if◌then◌else◌, ◌⊎◌}
use Rattle.fd_system.specs.fd_exact.Ranges.{UpTo}
use Rattle.fd_system.specs.fd_arith.ShortCircuit.{is_source_above_limit, short_circuit_ohms}
use Rattle.fd_source.specs.declared.data.Ohms.{Ohms}
use Rattle.fd_source.specs.declared.data.ShortCircuit.{ShortCircuit}

-- ---- the sizes of the impedances

-- kV^2 / MVA for three phases and for one, in 10^-9 ohm
abbrev pub three_phase_size : ShortCircuit → ℕ
three_phase_size s = short_circuit_ohms s.basekv s.mvasc3

abbrev pub one_phase_size : ShortCircuit → ℕ
one_phase_size s = short_circuit_ohms s.basekv s.mvasc1

-- one of them is above 10^4 ohm
abbrev pub IsPast : ShortCircuit → Type 0
IsPast s = IsTrue (is_source_above_limit s.basekv s.mvasc3 s.mvasc1)

-- ---- resistances and reactances

-- a ratio of reactance to resistance in 10^-4, of one in 10^-9
abbrev pub ratio_of : ℤ → ℕ
ratio_of z = nat_abs z / 10 ^ 5

-- the reactance of a resistance by such a ratio, rounded down
abbrev pub reactance_by : ℕ → ℕ → ℕ
reactance_by ratio r = ratio * r / 10 ^ 4

-- ---- the greatest resistance that keeps a size

-- r + j x is at most `size` in size
abbrev pub IsInside : ℕ → ℕ → ℕ → Type 0
IsInside r x size = r * r + x * x ≤ size * size

-- the square of the size of r + j x and the resistance s with its reactance by the ratio, not rounded, together: parts in 10^-9 ohm, the
-- ratio in 10^-4, the size in 10^-13 ohm
abbrev pub squared_size : ℕ → ℕ → ℕ → ℕ → ℕ
squared_size r x ratio s = 10 ^ 4 * (r + s) * (10 ^ 4 * (r + s)) + (10 ^ 4 * x + ratio * s) * (10 ^ 4 * x + ratio * s)

-- it is at most `size`, in 10^-9 ohm
abbrev pub keeps_size : ℕ → ℕ → ℕ → ℕ → ℕ → Bool
keeps_size r x ratio size s = nat_le (squared_size r x ratio s) (10 ^ 4 * size * (10 ^ 4 * size))

abbrev pub KeepsSize : ℕ → ℕ → ℕ → ℕ → ℕ → Type 0
KeepsSize r x ratio size s = squared_size r x ratio s ≤ 10 ^ 4 * size * (10 ^ 4 * size)

-- the greatest number up to n for which it holds, or 0 where none does
unfoldable pub greatest_such : (ℕ → Bool) → ℕ → ℕ
greatest_such holds zero = 0
greatest_such holds (suc n) = if holds (suc n) then suc n else greatest_such holds n

abbrev pub greatest_resistance : ℕ → ℕ → ℕ → ℕ → ℕ
greatest_resistance r x ratio size = greatest_such (keeps_size r x ratio size) size

-- ---- the impedances

-- R1 is the greatest for which R1 and its reactance are at most kV^2 / MVAsc3 in size; R0 the greatest for which it, its reactance and
-- 2 (R1 + j X1) are together at most 3 kV^2 / MVAsc1 in size, and 0 where there is none; X1 and X0 are rounded down
abbrev pub positive_resistance : ShortCircuit → ℕ
positive_resistance s = greatest_resistance 0 0 (ratio_of s.x1r1) (three_phase_size s)

abbrev pub positive_reactance : ShortCircuit → ℕ
positive_reactance s = reactance_by (ratio_of s.x1r1) (positive_resistance s)

abbrev pub zero_resistance : ShortCircuit → ℕ
zero_resistance s = greatest_resistance (2 * positive_resistance s) (2 * positive_reactance s) (ratio_of s.x0r0) (3 * one_phase_size s)

abbrev pub zero_reactance : ShortCircuit → ℕ
zero_reactance s = reactance_by (ratio_of s.x0r0) (zero_resistance s)

abbrev pub ohms_of : ShortCircuit → Ohms
ohms_of s = record {
  r1 = pos (positive_resistance s);
  x1 = pos (positive_reactance s);
  r0 = pos (zero_resistance s);
  x0 = pos (zero_reactance s);
}

-- n is the greatest number for which it holds, or 0 where none does
pub record IsGreatest (holds : ℕ → Type 0) (n : ℕ) : Type 0 where
  pub holding : holds n ⊎ (n ≡ 0)
  pub most : (m : ℕ) → holds m → m ≤ n

-- ---- conditions

-- a base voltage from 0.001 to 1000 kilovolt, powers from 0.001 to 10^6 megavolt-ampere, ratios from 0 to 100 of four decimals
pub record IsShortCircuit (s : ShortCircuit) : Type 0 where
  pub kv_least : pos (10 ^ 6) ≤ℤ s.basekv
  pub kv_most : s.basekv ≤ℤ pos (10 ^ 12)
  pub three_least : pos (10 ^ 6) ≤ℤ s.mvasc3
  pub three_most : s.mvasc3 ≤ℤ pos (10 ^ 15)
  pub one_least : pos (10 ^ 6) ≤ℤ s.mvasc1
  pub one_most : s.mvasc1 ≤ℤ pos (10 ^ 15)
  pub x1r1 : UpTo (10 ^ 11) s.x1r1
  pub x1r1_multiple : nat_abs s.x1r1 % 10 ^ 5 ≡ 0
  pub x0r0 : UpTo (10 ^ 11) s.x0r0
  pub x0r0_multiple : nat_abs s.x0r0 % 10 ^ 5 ≡ 0

-- each part is from 0 to 3 x 10^4 ohm
pub record AreWithin (o : Ohms) : Type 0 where
  pub r1 : UpTo (3 * 10 ^ 13) o.r1
  pub x1 : UpTo (3 * 10 ^ 13) o.x1
  pub r0 : UpTo (3 * 10 ^ 13) o.r0
  pub x0 : UpTo (3 * 10 ^ 13) o.x0

-- ---- the search for the greatest

-- it lies from low to high
pub record IsBracket (r x ratio size low high : ℕ) : Type 0 where
  pub order : low ≤ high
  pub top : high ≤ size
  pub holding : KeepsSize r x ratio size low ⊎ (low ≡ 0)
  pub most : (m : ℕ) → KeepsSize r x ratio size m → m ≤ high
