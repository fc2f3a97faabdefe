-- Sums of sizes, and sums at places of which few are touched.
use Rattle.std.specs.Prelude.{◌≡◌, ℕ, ◌+◌, ◌-◌, ◌*◌, ◌<◌, ◌≤◌, ◌^◌, min, ℤ, pos, ◌+ℤ◌, ◌*ℤ◌, nat_abs, List, length, ◌⊎◌}
use Rattle.std.specs.List.{All, Contains}
use Rattle.fd_factors.specs.Factors.{sum_at, weighted_size}
use Rattle.fd_factors.specs.fd_exact.States.{part}
use Rattle.fd_factors.specs.fd_exact.Sums.{list_n, list_z, sum_n}
use Rattle.fd_derived.specs.Rows.{number_at}

-- ---- totals of naturals

-- a total, or the greatest number of 128 bits where it is above that
abbrev pub capped : ℕ → ℕ
capped x = min x (2 ^ 128 - 1)

-- the sizes of a row's entries
abbrev pub size_of : List (ℕ × ℤ) → ℕ
size_of row = list_n (λ t. nat_abs t.1) row

-- the list has the first n totals
pub record AreTotals (f : ℕ → ℕ) (n : ℕ) (xs : List ℕ) : Type 0 where
  pub long : length xs ≡ n
  pub each : (i : ℕ) → i < n → number_at xs i ≡ capped (f i)

-- ---- sums at places

-- where a sum isn't 0, its place has been touched
abbrev pub IsSupported : List ℤ → List ℕ → Type 0
IsSupported sums touched = (j : ℕ) → j < length sums → (part sums j ≡ pos 0) ⊎ Contains touched j

abbrev pub AreInside : List ℕ → ℕ → Type 0
AreInside touched n = All (λ p. p < n) touched

abbrev pub AreZero : List ℤ → Type 0
AreZero sums = (j : ℕ) → j < length sums → part sums j ≡ pos 0

-- each sum has room for this much more
abbrev pub HasRoom : List ℤ → ℕ → Type 0
HasRoom sums more = (j : ℕ) → j < length sums → nat_abs (part sums j) + more ≤ 2 ^ 120

-- a multiple of a row has been added to the sums
pub record IsAdded (old new : List ℤ) (row : List (ℕ × ℤ)) (factor : ℤ) : Type 0 where
  pub long : length new ≡ length old
  pub sums : (j : ℕ) → j < length old → part new j ≡ part old j +ℤ factor *ℤ sum_at row j
  pub low : (j : ℕ) → j < length old → nat_abs (part new j) ≤ nat_abs (part old j) + nat_abs factor * size_of row

-- multiples of rows have been added to the sums, with a sign
pub record IsCombined (old new : List ℤ) (row : List (ℕ × ℤ)) (U : ℕ → List (ℕ × ℤ)) (sign : ℤ) : Type 0 where
  pub long : length new ≡ length old
  pub sums : (j : ℕ) → j < length old → part new j ≡ part old j +ℤ sign *ℤ list_z (λ t. t.1 *ℤ sum_at (U t.0) j) row
  pub low : (j : ℕ) → j < length old → nat_abs (part new j) ≤ nat_abs (part old j) + weighted_size row (λ k. size_of (U k))

-- the sizes of sums, each times the number at its place
abbrev pub spread : List ℤ → List ℕ → ℕ → ℕ
spread sums bounds n = sum_n (λ j. nat_abs (part sums j) * number_at bounds j) n
