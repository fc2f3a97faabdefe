-- Derived rows in the order of an elimination: each names earlier rows alone, and leaves, behind the entry at its own
-- unknown, entries at the unknowns of later rows.
use Rattle.std.specs.Prelude.{◌≡◌, ◌≢◌, ℕ, ℤ, pos, nat_abs, ◌<◌, ◌≤◌, List, [], ◌∷◌, length}
use Rattle.std.specs.List.{All}
use Rattle.fd_substitution.specs.fd_derived.fd_factors.Factors.{HasPlaces}
use Rattle.fd_substitution.specs.fd_derived.Accepted.{NamesOnce}
use Rattle.fd_substitution.specs.fd_derived.Rows.{row_at}
use Rattle.fd_substitution.specs.fd_derived.declared.entries.Equation.{Equation}
use Rattle.fd_substitution.specs.fd_derived.declared.entries.Row.{Row}

-- the first entry of what a row leaves, and the others
abbrev pub pivot_of : List (ℕ × ℤ) → ℕ × ℤ
pivot_of [] = (0, pos 0)
pivot_of (t ∷ rest) = t

abbrev pub rest_of : List (ℕ × ℤ) → List (ℕ × ℤ)
rest_of [] = []
rest_of (t ∷ rest) = rest

module _ (rows : List Row) where
  -- the unknown of a row: that of its first entry
  abbrev pub unknown_at : ℕ → ℕ
  unknown_at t = (pivot_of (row_at rows t).left).0

  -- the size of that entry
  abbrev pub pivot_at : ℕ → ℕ
  pivot_at t = nat_abs (pivot_of (row_at rows t).left).1

  -- what a row leaves beside it
  abbrev pub rest_at : ℕ → List (ℕ × ℤ)
  rest_at t = rest_of (row_at rows t).left

  -- a row of n equations names each once, and earlier rows alone; its first entry isn't 0, and the others are neither at
  -- its unknown nor at that of an earlier row
  pub record IsInOrder (n t : ℕ) : Type 0 where
    pub once : NamesOnce (row_at rows t)
    pub equations : HasPlaces n (row_at rows t).equations
    pub others : HasPlaces t (row_at rows t).others
    pub left : HasPlaces n (row_at rows t).left
    pub unknown : unknown_at t < n
    pub pivot : 0 < pivot_at t
    pub rest : All (λ u. (s : ℕ) → s ≤ t → unknown_at s ≢ u.0) (rest_at t)

-- as many rows as equations, all in order, and each unknown is that of one row
pub record AreInOrder (es : List Equation) (rows : List Row) : Type 0 where
  pub long : length rows ≡ length es
  pub each : (t : ℕ) → t < length es → IsInOrder rows (length es) t
  pub apart : (s t : ℕ) → s < t → t < length es → unknown_at rows s ≢ unknown_at rows t
  pub covers : (j : ℕ) → j < length es → (t : ℕ) × (t < length es) × (unknown_at rows t ≡ j)
