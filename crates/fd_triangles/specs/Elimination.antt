-- The elimination of the unknowns of equations in a given order, in units of 2^-40.
use Rattle.std.specs.Prelude.{◌≡◌, ℕ, zero, suc, ◌+◌, ◌<◌, ◌≤◌, ◌^◌, ◌==◌, nat_lt, if◌then◌else◌, ℤ, pos, ◌-ℤ◌, ◌*ℤ◌, nat_abs, List, ◌⊎◌, get_or, length}
use Rattle.fd_derived.specs.fd_factors.fd_exact.Rounding.{near_div, near_over}
use Rattle.fd_derived.specs.Rows.{coefficient}
use Rattle.fd_derived.specs.declared.entries.Equation.{Equation}
use Rattle.fd_triangles.specs.declared.fault.FactorFault.{FactorFault}
use Rattle.fd_triangles.specs.declared.fault.FactorFault.TheVariants.{Pivot, Range, NoMemory}
use Rattle.fd_triangles.specs.declared.pair.Pair.{Pair}

abbrev pub pair_at : List Pair → ℕ → Pair
pair_at order t = get_or order t (record { unknown = 0; equation = 0 })

-- ---- one row less another

-- how often a row with this entry loses a row with this pivot, in units of 2^-40; 0 where the entry is 0
unfoldable pub multiple : ℤ → ℤ → ℤ
multiple e pivot = near_over (e *ℤ pos (2 ^ 40)) pivot

-- what is left of a number that loses f times another
unfoldable pub less : ℤ → ℤ → ℤ → ℤ
less z f other = z -ℤ near_div (f *ℤ other) (2 ^ 40)

-- what is left of a row that loses another as often as clears its entry at q
unfoldable pub cleared : (ℕ → ℤ) → (ℕ → ℤ) → ℕ → ℕ → ℤ
cleared row other q c = (if c == q then pos 0 else less (row c) (multiple (row q) (other q)) (other c))

-- ---- the elimination

module _ (es : List Equation) (order : List Pair) where
  -- the unknown that is eliminated at a place
  abbrev pub unknown_at : ℕ → ℕ
  unknown_at t = (pair_at order t).unknown

  -- the numbers of the row at a place, the first so many unknowns being eliminated from the rows behind theirs
  unfoldable pub row_after : ℕ → ℕ → ℕ → ℤ
  row_after zero i c = coefficient es (pair_at order i).equation c
  row_after (suc t) i c = (if nat_lt t i then cleared (row_after t i) (row_after t t) (unknown_at t) c else row_after t i c)

  -- the row at a place, which is final once its own turn comes
  abbrev pub final_row : ℕ → ℕ → ℤ
  final_row t = row_after t t

  abbrev pub pivot_of : ℕ → ℤ
  pivot_of t = final_row t (unknown_at t)

  -- how often the row at i loses the row at t, which is before it
  unfoldable pub multiple_of : ℕ → ℕ → ℤ
  multiple_of i t = (if nat_lt t i then multiple (row_after t i (unknown_at t)) (pivot_of t) else pos 0)

  -- no number that comes from the elimination at t is past 2^62 in size
  pub record IsWithin (t : ℕ) : Type 0 where
    pub multiples : (i : ℕ) → t < i → i < length order → nat_abs (multiple_of i t) ≤ 2 ^ 62
    pub numbers : (i c : ℕ) → t < i → i < length order → nat_abs (row_after (t + 1) i c) ≤ 2 ^ 62

  -- one is
  pub record IsPast (t : ℕ) : Type 0 where
    pub place : ℕ
    pub behind : t < place
    pub place_in : place < length order
    pub past : (2 ^ 62 < nat_abs (multiple_of place t)) ⊎ ((c : ℕ) × (2 ^ 62 < nat_abs (row_after (t + 1) place c)))

  -- the pivots are large enough, and the numbers small enough, at the first so many places
  pub record AreFine (n : ℕ) : Type 0 where
    pub pivots : (t : ℕ) → t < n → 2 ^ 8 ≤ nat_abs (pivot_of t)
    pub within : (t : ℕ) → t < n → IsWithin t

  -- the elimination ends at this unknown, the first at which anything isn't fine
  pub record EndsAt (q : ℕ) (Cause : ℕ → Type 0) : Type 0 where
    pub place : ℕ
    pub place_in : place < length order
    pub unknown_is : q ≡ unknown_at place
    pub fine : AreFine place
    pub cause : Cause place

  -- why there are no factors; want of memory says nothing
  abbrev pub HasEnded : FactorFault → Type 0
  HasEnded (Pivot q) = EndsAt q (λ t. nat_abs (pivot_of t) < 2 ^ 8)
  HasEnded (Range q) = EndsAt q (λ t. (2 ^ 8 ≤ nat_abs (pivot_of t)) × IsPast t)
  HasEnded NoMemory = Unit {0}
