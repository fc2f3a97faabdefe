-- Ranges of whole numbers. A range includes its ends.
use Rattle.std.specs.Prelude.{ℕ, ℤ, pos, neg_ℤ, ◌≤ℤ◌}

-- a number from low to high
pub record IsBetween (low high z : ℤ) : Type 0 where
  pub least : low ≤ℤ z
  pub most : z ≤ℤ high

-- from low to high, both naturals
abbrev pub Between : ℕ → ℕ → ℤ → Type 0
Between low high = IsBetween (pos low) (pos high)

-- from 0 to n
abbrev pub UpTo : ℕ → ℤ → Type 0
UpTo n = IsBetween (pos 0) (pos n)

-- at most n in size
abbrev pub Within : ℕ → ℤ → Type 0
Within n = IsBetween (neg_ℤ (pos n)) (pos n)
