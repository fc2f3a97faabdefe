-- Ranges of values, in the units of their fields. A range includes its ends.
use Rattle.std.specs.Prelude.{◌≡◌, ℕ, ◌*◌, ◌%◌, ◌≤◌, ℤ, pos, neg_ℤ, unsigned_abs, List, [], ◌∷◌, ◌⊎◌}
pub use Rattle.fd_arith.specs.fd_exact.Ranges.{IsBetween}

-- so many ones, in whole 10^-9
abbrev pub ones : ℕ → ℤ
ones n = pos (n * 1_000_000_000)

-- a count, a tap or a time from low to high
pub record IsCountBetween (low high n : ℕ) : Type 0 where
  pub least : low ≤ n
  pub most : n ≤ high

-- one of these counts
abbrev pub IsOneOf : List ℕ → ℕ → Type 0
IsOneOf [] n = ⊥
IsOneOf (m ∷ []) n = n ≡ m
IsOneOf (m ∷ k ∷ ms) n = (n ≡ m) ⊎ IsOneOf (k ∷ ms) n

-- a multiple of 30 degrees, at most a turn in size
pub record IsAngle (degrees : ℤ) : Type 0 where
  pub within : IsBetween (neg_ℤ (pos 360)) (pos 360) degrees
  pub multiple : unsigned_abs degrees % 30 ≡ 0

-- a ratio from 0 to 100, a multiple of 10^-4
pub record IsRatio (n : ℤ) : Type 0 where
  pub within : IsBetween (pos 0) (ones 100) n
  pub multiple : unsigned_abs n % 100_000 ≡ 0

-- a power factor, from 0.01 to 1 in size, with either sign
abbrev pub IsPowerFactor : ℤ → Type 0
IsPowerFactor n = IsBetween (pos 10_000_000) (ones 1) n ⊎ IsBetween (neg_ℤ (ones 1)) (neg_ℤ (pos 10_000_000)) n

-- a tap from 0.5 to 2, in whole 10^-5
abbrev pub IsTap : ℕ → Type 0
IsTap = IsCountBetween 50_000 200_000

-- a time of at most 10^6 seconds, in whole milliseconds
abbrev pub IsTime : ℕ → Type 0
IsTime n = n ≤ 1_000_000_000

-- the number of a phase as a script may write it; whether there is such a phase is a test of Solve
abbrev pub IsPhaseNumber : ℤ → Type 0
IsPhaseNumber = IsBetween (neg_ℤ (pos 1_000_000_000)) (pos 1_000_000_000)

-- a nominal voltage from 0.01 to 1000 kV
abbrev pub IsKilovolt : ℤ → Type 0
IsKilovolt = IsBetween (pos 10_000_000) (ones 1000)

-- a rating, a short-circuit power or a ratio of an instrument transformer, from 0.001 to 10^6
abbrev pub IsRating : ℤ → Type 0
IsRating = IsBetween (pos 1_000_000) (ones 1_000_000)

-- a resistance or a reactance of a sequence, from 0 to 10^4 ohm
abbrev pub IsImpedance : ℤ → Type 0
IsImpedance = IsBetween (pos 0) (ones 10_000)

-- an entry of a matrix of resistances or reactances, at most 10^4 ohm in size
abbrev pub IsImpedanceEntry : ℤ → Type 0
IsImpedanceEntry = IsBetween (neg_ℤ (ones 10_000)) (ones 10_000)

-- a capacitance of a sequence, from 0 to 10^6 nF
abbrev pub IsCapacitance : ℤ → Type 0
IsCapacitance = IsBetween (pos 0) (ones 1_000_000)

-- an entry of a matrix of capacitances, at most 10^6 nF in size
abbrev pub IsCapacitanceEntry : ℤ → Type 0
IsCapacitanceEntry = IsBetween (neg_ℤ (ones 1_000_000)) (ones 1_000_000)

-- a power of at most 300000 kW or kvar in size
abbrev pub IsPower : ℤ → Type 0
IsPower = IsBetween (neg_ℤ (ones 300_000)) (ones 300_000)

-- a share of a power, at most 10 in size
abbrev pub IsShare : ℤ → Type 0
IsShare = IsBetween (neg_ℤ (ones 10)) (ones 10)

-- a setting of the line drop compensation, at most 1000 volts in size
abbrev pub IsCompensation : ℤ → Type 0
IsCompensation = IsBetween (neg_ℤ (ones 1000)) (ones 1000)

-- a value at which a control acts, at most 10^6 in size
abbrev pub IsSetting : ℤ → Type 0
IsSetting = IsBetween (neg_ℤ (ones 1_000_000)) (ones 1_000_000)
