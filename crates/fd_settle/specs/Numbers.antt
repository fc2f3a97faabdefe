-- The numbers of an act.
use Rattle.std.specs.Prelude.{ℕ, ℤ, ◌<◌, ◌^◌, unsigned_abs}

-- a time of 64 bits, the number of a control of 32, and steps of 32 with their sign
pub record AreActNumbers (t k : ℕ) (n : ℤ) : Type 0 where
  pub time : t < 2 ^ 64
  pub control : k < 2 ^ 32
  pub steps : unsigned_abs n < 2 ^ 32
