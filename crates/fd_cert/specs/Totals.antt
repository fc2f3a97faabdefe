-- Totals of natural numbers up to 2^120.
use Rattle.std.specs.Prelude.{◌≡◌, ℕ, ◌*◌, ◌^◌, ◌<◌, ◌≤◌, ℤ, ◌-ℤ◌, nat_abs, List, length, Option, Some, None}
use Rattle.fd_enclosure.specs.fd_exact.States.{part}
use Rattle.fd_enclosure.specs.fd_exact.Sums.{sum_n}
use Rattle.fd_enclosure.specs.Bounds.{unit_at}
use Rattle.fd_enclosure.specs.Sound.{number_at}

-- a total, if it is at most 2^120; else none
abbrev pub IsTotal : ℕ → Option ℕ → Type 0
IsTotal total None = 2 ^ 120 < total
IsTotal total (Some t) = (t ≡ total) × (t ≤ 2 ^ 120)

-- a total, if it is at most 2^120; else any number above
pub record IsUpTo (total m : ℕ) : Type 0 where
  pub same : total ≤ 2 ^ 120 → m ≡ total
  pub past : 2 ^ 120 < total → 2 ^ 120 < m

-- the radii of row l, each times the weight of its column
abbrev pub weighted_radius : ℕ → (ℕ → ℕ → ℕ) → (ℕ → ℕ) → ℕ → ℕ
weighted_radius n R w l = sum_n (λ j. R l j * w j) n

-- what the sums of n columns leave of row i of the unit matrix, each size times the weight of its column
abbrev pub left_total : ℕ → ℕ → List ℤ → List ℤ → ℕ
left_total n i ws sums = sum_n (λ j. nat_abs (part ws j) * nat_abs (unit_at i j -ℤ part sums j)) n

-- the sizes of n numbers, each times its weight
abbrev pub weighted_total : ℕ → List ℤ → List ℤ → ℕ
weighted_total n ws zs = sum_n (λ j. nat_abs (part ws j) * nat_abs (part zs j)) n

-- the same with the sizes of the weights
abbrev pub short_total : ℕ → List ℕ → List ℤ → ℕ
short_total n shorts zs = sum_n (λ j. number_at shorts j * nat_abs (part zs j)) n

-- the sizes of the entries of a row of the inverse, each times a number
abbrev pub sizes_total : ℕ → List ℤ → List ℕ → ℕ
sizes_total n row numbers = sum_n (λ l. nat_abs (part row l) * number_at numbers l) n

-- for each of n rows its radii by weight
pub record AreWeighted (n : ℕ) (R : ℕ → ℕ → ℕ) (w : ℕ → ℕ) (rows : List ℕ) : Type 0 where
  pub long : length rows ≡ n
  pub each : (l : ℕ) → l < n → IsUpTo (weighted_radius n R w l) (number_at rows l)

-- the weights, where each is at most 2^40
pub record AreShortWeights (ws : List ℤ) (shorts : List ℕ) : Type 0 where
  pub long : length shorts ≡ length ws
  pub each : (j : ℕ) → j < length ws → number_at shorts j ≡ nat_abs (part ws j)
  pub small : (j : ℕ) → j < length ws → number_at shorts j ≤ 2 ^ 40
