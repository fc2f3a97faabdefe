-- The factors of equations in an order, and how the rows that a body works on show the elimination.
use Rattle.std.specs.Prelude.{◌≡◌, ◌≢◌, ℕ, ℤ, pos, nat_lt, if◌then◌else◌, ◌+◌, ◌<◌, ◌≤◌, ◌^◌, List, [], ◌∷◌, length, get_or, map, take, ◌⊎◌}
use Rattle.std.specs.List.{Contains}
use Rattle.fd_derived.specs.fd_factors.Factors.{HasPlaces}
use Rattle.fd_derived.specs.Rows.{coefficients_at}
use Rattle.fd_derived.specs.Sums.{size_of}
use Rattle.fd_derived.specs.declared.entries.Entry.{Entry}
use Rattle.fd_derived.specs.declared.entries.Equation.{Equation}
use Rattle.fd_derived.specs.declared.entries.Row.{Row}
use Rattle.fd_triangles.specs.Columns.{Holds}
use Rattle.fd_triangles.specs.Elimination.{AreFine, final_row, multiple_of, pair_at, pivot_of, row_after, unknown_at}
use Rattle.fd_triangles.specs.Rows.{IsPivoted, IsRow, IsRowOf, apart_from, number}
use Rattle.fd_triangles.specs.Steps.{Parts, parts_of}
use Rattle.fd_triangles.specs.declared.columns.Column.{Column}
use Rattle.fd_triangles.specs.declared.pair.Pair.{Pair}

abbrev pub no_parts : Parts
no_parts = record { equations = []; others = []; left = [] }

-- the lists of the derived row at a place
abbrev pub parts_in : List Row → ℕ → Parts
parts_in rows i = get_or (map parts_of rows) i no_parts

-- the equations have as many unknowns, each row's sizes add up to 2^62 at most, and the order has as many pairs
pub record AreOrdered (es : List Equation) (order : List Pair) : Type 0 where
  pub long : length order ≡ length es
  pub unknowns : (t : ℕ) → t < length order → unknown_at es order t < length es
  pub equations : (t : ℕ) → t < length order → (pair_at order t).equation < length es
  pub placed : (l : ℕ) → l < length es → HasPlaces (length es) (coefficients_at es l)
  pub small : (l : ℕ) → l < length es → size_of (coefficients_at es l) ≤ 2 ^ 62

module _ (es : List Equation) (order : List Pair) where
  -- The derived row at a place: its equation once, less multiples of the rows before it, leaves the final row, its pivot
  -- first. Multiples and what is left stand in rising places, and none is 0.
  pub record IsFactorRow (t : ℕ) (row : Parts) : Type 0 where
    pub equation : row.equations ≡ record { place = (pair_at order t).equation; units = pos (2 ^ 40) } ∷ []
    pub others : IsRowOf (length order) (multiple_of es order t) row.others
    pub left : IsPivoted (length es) (final_row es order t) (unknown_at es order t) row.left

  -- the factors: a derived row at each place, where the elimination comes to its end
  pub record AreFactors (rows : List Row) : Type 0 where
    pub fine : AreFine es order (length order)
    pub long : length rows ≡ length order
    pub each : (t : ℕ) → t < length order → IsFactorRow t (parts_in rows t)

  -- ---- while the elimination goes on

  -- the multiples of the rows at the first t places
  abbrev pub multiples_before : ℕ → ℕ → ℕ → ℤ
  multiples_before i t k = (if nat_lt k t then multiple_of es order i k else pos 0)

  -- a row shows what the elimination of the first t unknowns leaves at a place
  pub record Shows (t i : ℕ) (row : Parts) : Type 0 where
    pub equation : row.equations ≡ record { place = (pair_at order i).equation; units = pos (2 ^ 40) } ∷ []
    pub others : IsRowOf (length order) (multiples_before i t) row.others
    pub left : IsRowOf (length es) (row_after es order t i) row.left

  -- the pivot and the other entries of the final row at a place
  pub record HasPivot (t : ℕ) (pivot : Entry) (others : List Entry) : Type 0 where
    pub place_is : pivot.place ≡ unknown_at es order t
    pub units_is : pivot.units ≡ pivot_of es order t
    pub others_are : IsRowOf (length es) (apart_from (unknown_at es order t) (final_row es order t)) others

  -- the first i rows are loaded, and noted in the columns of their entries
  pub record AreLoaded (i : ℕ) (work : List Row) (columns : List Column) : Type 0 where
    pub long : length work ≡ i
    pub columns_long : length columns ≡ length es
    pub rows : (j : ℕ) → j < i → Shows 0 j (parts_in work j)
    pub covers : (j c : ℕ) → j < i → number (parts_in work j).left c ≢ pos 0 → Holds columns c j
    pub inside : (c j : ℕ) → Holds columns c j → j < i

  -- the first t unknowns are eliminated, and their rows done
  pub record Running (t : ℕ) (work : List Row) (columns : List Column) (finished : List Row) : Type 0 where
    pub long : length work ≡ length order
    pub columns_long : length columns ≡ length es
    pub before : (i c : ℕ) → i < t → number (parts_in work i).left c ≡ pos 0
    pub behind : (i : ℕ) → t ≤ i → i < length order → Shows t i (parts_in work i)
    pub covers : (i c : ℕ) → i < length order → number (parts_in work i).left c ≢ pos 0 → Holds columns c i
    pub inside : (c i : ℕ) → Holds columns c i → i < length order
    pub done_long : length finished ≡ t
    pub done : (i : ℕ) → i < t → IsFactorRow i (parts_in finished i)
    pub fine : AreFine es order t

  -- the rows of which the first k are held in a column are cleared by the row at t
  pub record Clearing (t : ℕ) (holding : List ℕ) (k : ℕ) (work : List Row) (columns : List Column) : Type 0 where
    pub long : length work ≡ length order
    pub columns_long : length columns ≡ length es
    pub before : (i c : ℕ) → i < t + 1 → number (parts_in work i).left c ≡ pos 0
    pub behind : (i : ℕ) → t < i → i < length order → Shows t i (parts_in work i) ⊎ Shows (t + 1) i (parts_in work i)
    pub cleared : (i : ℕ) → t < i → i < length order → Contains (take k holding) i → Shows (t + 1) i (parts_in work i)
    pub covers : (i c : ℕ) → i < length order → number (parts_in work i).left c ≢ pos 0
        → (c ≢ unknown_at es order t → Holds columns c i) × (c ≡ unknown_at es order t → Contains holding i)
    pub inside : (c i : ℕ) → Holds columns c i → i < length order

-- the row of each place has its entries in order
abbrev pub AreRows : ℕ → List Row → Type 0
AreRows n work = (i : ℕ) → i < length work → IsRow n (parts_in work i).left
