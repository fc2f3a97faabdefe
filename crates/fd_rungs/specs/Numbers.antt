-- Whole numbers of micro-units, and coefficients in units of 2^-40.
use Rattle.std.specs.Prelude.{ℕ, zero, suc, ◌+◌, ◌*◌, ◌^◌, ◌≤◌, ℤ, pos, ◌*ℤ◌, nat_abs, nat_le, Bool, List, if◌then◌else◌}
use Rattle.fd_pattern.specs.fd_load.fd_exact.Rounding.{near_div}
use Rattle.fd_pattern.specs.fd_load.fd_exact.States.{part}

-- n / d as a coefficient, to the nearest
abbrev pub coefficient : ℤ → ℕ → ℤ
coefficient n d = near_div (n *ℤ pos (2 ^ 40)) d

-- a coefficient times a number, to the nearest
unfoldable pub times : ℤ → ℤ → ℤ
times f z = near_div (f *ℤ z) (2 ^ 40)

-- the greatest number up to most whose square is at most n
abbrev pub root_to : ℕ → ℕ → ℕ
root_to n zero = zero
root_to n (suc most) = if nat_le (suc most * suc most) n then suc most else root_to n most

-- the square root of n, rounded down
unfoldable pub root_of : ℕ → ℕ
root_of n = root_to n n

-- a part of a state is at most 2^40 in size
abbrev pub is_part : ℤ → Bool
is_part z = nat_le (nat_abs z) (2 ^ 40)

-- ---- conditions

-- each part is at most n in size
abbrev pub SizedBy : ℕ → List ℤ → Type 0
SizedBy n x = (place : ℕ) → nat_abs (part x place) ≤ n

-- a coefficient is at most 2^100 units in size
abbrev pub IsCoefficient : ℤ → Type 0
IsCoefficient f = nat_abs f ≤ 2 ^ 100

-- one of an admittance or a ratio at most 2^76
abbrev pub IsSmallCoefficient : ℤ → Type 0
IsSmallCoefficient f = nat_abs f ≤ 2 ^ 76
