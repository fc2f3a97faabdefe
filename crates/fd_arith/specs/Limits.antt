-- The limits on whole numbers of units.
use Rattle.std.specs.Prelude.{ℕ, ℤ, pos, negsuc, neg_ℤ, ◌≤ℤ◌, ◌*◌, ◌+◌, ◌≤◌, ◌<◌, ◌^◌, Option, None, Some, Bool, ◌&&◌, int_le, if◌then◌else◌}

-- 2^120: no number, no end and no bounded whole number passes it in size
abbrev pub limit : ℤ
limit = pos (2 ^ 120)

abbrev pub Fits : ℤ → Type 0
Fits n = (neg_ℤ limit ≤ℤ n) × (n ≤ℤ limit)

abbrev pub fits : ℤ → Bool
fits n = int_le (neg_ℤ limit) n && int_le n limit

-- a number within the limit, or OUT
abbrev pub IsUnits : Option ℤ → Type 0
IsUnits None = Unit {0}
IsUnits (Some u) = Fits u

-- this number, or OUT where it passes the limit
unfoldable pub within : ℤ → Option ℤ
within u = (if fits u then Some u else None)

-- z, or none where it passes 2^100 in size
abbrev pub bounded : ℤ → Option ℤ
bounded z = (if int_le (neg_ℤ (pos (2 ^ 100))) z && int_le z (pos (2 ^ 100)) then Some z else None)

-- r is the square root of n rounded down
abbrev pub IsRoot : ℕ → ℕ → Type 0
IsRoot n r = (r * r ≤ n) × (n < (r + 1) * (r + 1))

-- r is the square root of n rounded up
abbrev pub IsRootUp : ℕ → ℕ → Type 0
IsRootUp n r = (n ≤ r * r) × ((s : ℕ) → s < r → s * s < n)

-- z, or 0 where it is negative
abbrev pub non_negative : ℤ → ℕ
non_negative (pos n) = n
non_negative (negsuc n) = 0
