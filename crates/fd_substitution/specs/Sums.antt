-- Sums of a row's entries, each times a number, in the order in which the entries stand.
use Rattle.std.specs.Prelude.{◌≡◌, ℕ, ◌<◌, ◌≤◌, ◌^◌, ℤ, pos, ◌-ℤ◌, ◌*ℤ◌, nat_abs, List, length, take, ◌⊎◌, Option, MatchOption}
use Rattle.fd_triangles.specs.Rows.{entry_at}
use Rattle.fd_triangles.specs.fd_derived.fd_factors.fd_exact.Rounding.{near_div, near_over}
use Rattle.fd_triangles.specs.fd_derived.fd_factors.fd_exact.Sums.{list_z}
use Rattle.fd_triangles.specs.fd_derived.declared.entries.Entry.{Entry}

-- the sum of a row's entries, each times the number of its place
abbrev pub weighted : List Entry → (ℕ → ℤ) → ℤ
weighted row x = list_z (λ (e : Entry). e.units *ℤ x e.place) row

-- what is left of a number less the first k of these products
abbrev pub left_after : ℤ → List Entry → (ℕ → ℤ) → ℕ → ℤ
left_after z row x k = z -ℤ weighted (take k row) x

-- the entries stand at places below n
abbrev pub IsInside : ℕ → List Entry → Type 0
IsInside n row = (k : ℕ) → k < length row → (entry_at row k).place < n

-- no partial sum is past 2^120 in size
abbrev pub SumsAreWithin : ℤ → List Entry → (ℕ → ℤ) → Type 0
SumsAreWithin z row x = (k : ℕ) → nat_abs (left_after z row x k) ≤ 2 ^ 120

-- one is
abbrev pub SumIsPast : ℤ → List Entry → (ℕ → ℤ) → Type 0
SumIsPast z row x = (k : ℕ) × (2 ^ 120 < nat_abs (left_after z row x k))

-- a number that is made of the sum isn't past 2^62 in size, nor a partial sum past 2^120
pub record IsWithin (z : ℤ) (row : List Entry) (x : ℕ → ℤ) (made : ℤ) : Type 0 where
  pub sums : SumsAreWithin z row x
  pub number : nat_abs made ≤ 2 ^ 62

-- one of them is
abbrev pub IsPast : ℤ → List Entry → (ℕ → ℤ) → ℤ → Type 0
IsPast z row x made = SumIsPast z row x ⊎ (2 ^ 62 < nat_abs made)

-- the number, where it and all that it is made of are within their ranges, and none exactly where they aren't
abbrev pub IsMade : ℤ → List Entry → (ℕ → ℤ) → ℤ → Option ℤ → Type 0
IsMade z row x made result =
    MatchOption result (IsPast z row x made) (λ number. (number ≡ made) × IsWithin z row x made)

-- ---- the numbers that are made of sums, in 2^-20 of the unit of the right sides

-- a right side less multiples of other numbers
abbrev pub lowered : ℤ → List Entry → (ℕ → ℤ) → ℤ
lowered right others y = pos (2 ^ 20) *ℤ right -ℤ near_div (weighted others y) (2 ^ 40)

-- what other entries leave of a number, over a pivot
abbrev pub raised : ℤ → List Entry → (ℕ → ℤ) → ℤ → ℤ
raised number rest d pivot = near_over (pos (2 ^ 40) *ℤ number -ℤ weighted rest d) pivot
