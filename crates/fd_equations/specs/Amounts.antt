-- Cells: what contributions and slopes of part loads add up to at each place of a pattern.
use Rattle.std.specs.Prelude.{◌≡◌, ◌≢◌, ℕ, ◌+◌, ◌<◌, ◌≤◌, ℤ, pos, ◌+ℤ◌, nat_abs, cond, List, length, get_or}
use Rattle.std.specs.List.{Contains}
use Rattle.fd_pattern.specs.fd_arith.declared.terms.Term.{Term}
use Rattle.fd_mat.specs.fd_exact.Sums.{list_z}
use Rattle.fd_pattern.specs.fd_load.declared.slopes.Slopes.{Slopes}
use Rattle.fd_pattern.specs.fd_system.declared.loads.LoadAt.{LoadAt}
use Rattle.fd_equations.specs.declared.cells.Cell.{Cell}
use Rattle.fd_pattern.specs.fd_system.Contributions.{term_units}
use Rattle.fd_pattern.specs.Coefficients.{count_at, linear_entry, stands_at}
use Rattle.fd_equations.specs.PartLoads.{load_entry, slope_count, slope_counts}
use Rattle.fd_pattern.specs.Patterns.{PatternView, key}

-- a sum in units of 2^-40, how many contributions, and how many slopes of part loads
pub record Amount : Type 0 where
  pub units : ℤ
  pub count : ℕ
  pub slopes : ℕ

abbrev pub amount : ℤ → ℕ → ℕ → Amount
amount u n s = record { units = u; count = n; slopes = s }

abbrev pub nothing : Amount
nothing = amount (pos 0) 0 0

-- ---- at a place of row and column

abbrev pub of_term : Term → ℕ × ℕ → Amount
of_term t p = amount (cond (stands_at p.0 p.1 t) (term_units t) (pos 0)) (cond (stands_at p.0 p.1 t) 1 0) 0

abbrev pub of_terms : List Term → ℕ × ℕ → Amount
of_terms ts p = amount (linear_entry ts p.0 p.1) (count_at ts p.0 p.1) 0

-- a part load with these slopes
abbrev pub of_load : LoadAt → Slopes → ℕ × ℕ → Amount
of_load u s p = amount (load_entry u s p.0 p.1) 0 (slope_count p.0 p.1 u)

-- part loads, each with its slopes
abbrev pub of_loads : (LoadAt → Slopes) → List LoadAt → ℕ × ℕ → Amount
of_loads f us p = amount (list_z (λ u. load_entry u (f u) p.0 p.1) us) 0 (slope_counts us p.0 p.1)

-- contributions and part loads, each with its slopes
abbrev pub of_both : List Term → (LoadAt → Slopes) → List LoadAt → ℕ × ℕ → Amount
of_both ts f us p = amount (linear_entry ts p.0 p.1 +ℤ list_z (λ u. load_entry u (f u) p.0 p.1) us) (count_at ts p.0 p.1) (slope_counts us p.0 p.1)

-- contributions, and how many slopes part loads have
abbrev pub of_rows : List Term → List LoadAt → ℕ × ℕ → Amount
of_rows ts us p = amount (linear_entry ts p.0 p.1) (count_at ts p.0 p.1) (slope_counts us p.0 p.1)

-- ---- cells

abbrev pub cell_of : ℕ → Amount → Cell
cell_of col a = record { col = col; count = a.count; slopes = a.slopes; units = a.units }

-- without the number of slopes
abbrev pub without_slopes : Cell → Cell
without_slopes c = record { col = c.col; count = c.count; slopes = 0; units = c.units }

abbrev pub empty : Cell
empty = cell_of 0 nothing

abbrev pub cell_at : List Cell → ℕ → Cell
cell_at cells k = get_or cells k empty

-- the cell at each place has its column, and what is said of the place
pub record AreCells (ps : List (ℕ × ℕ)) (cells : List Cell) (at : ℕ × ℕ → Amount) : Type 0 where
  pub long : length cells ≡ length ps
  pub each : (k : ℕ) → k < length ps → cell_at cells k ≡ cell_of (key ps k).1 (at (key ps k))

abbrev pub more : Cell → Amount → Cell
more c a = record { col = c.col; count = c.count + a.count; slopes = c.slopes + a.slopes; units = c.units +ℤ a.units }

-- the cell at each place has what is said of the place more
abbrev pub AreGrown : List (ℕ × ℕ) → List Cell → List Cell → (ℕ × ℕ → Amount) → Type 0
AreGrown ps old new add = (k : ℕ) → k < length ps → cell_at new k ≡ more (cell_at old k) (add (key ps k))

-- the cell at each place has lost what is said of the place by the one, and has what is said by the other more
abbrev pub AreExchanged : List (ℕ × ℕ) → List Cell → List Cell → (ℕ × ℕ → Amount) → (ℕ × ℕ → Amount) → Type 0
AreExchanged ps old new less add = (k : ℕ) → k < length ps → more (cell_at new k) (less (key ps k)) ≡ more (cell_at old k) (add (key ps k))

-- the cell at each place has at least so many contributions
abbrev pub HaveCounts : List (ℕ × ℕ) → List Cell → (ℕ × ℕ → ℕ) → Type 0
HaveCounts ps cells least = (k : ℕ) → k < length ps → least (key ps k) ≤ (cell_at cells k).count

-- no sum and no number of contributions, and no sum and no number of slopes, is past these
abbrev pub HaveTermRoom : List (ℕ × ℕ) → List Cell → ℕ → ℕ → Type 0
HaveTermRoom ps cells units count = (k : ℕ) → k < length ps → (nat_abs (cell_at cells k).units ≤ units) × ((cell_at cells k).count ≤ count)

abbrev pub HaveSlopeRoom : List (ℕ × ℕ) → List Cell → ℕ → ℕ → Type 0
HaveSlopeRoom ps cells units slopes = (k : ℕ) → k < length ps → (nat_abs (cell_at cells k).units ≤ units) × ((cell_at cells k).slopes ≤ slopes)

-- ---- a row

-- there is nothing at a place that isn't among these
abbrev pub IsNothingElsewhere : List (ℕ × ℕ) → (ℕ × ℕ → Amount) → Type 0
IsNothingElsewhere ps at = (p : ℕ × ℕ) → ¬ (Contains ps p) → at p ≡ nothing

-- the cells of a row of `size` columns: columns rise, each has its amount, and at every other column there is nothing
pub record IsRowOf (size : ℕ) (at : ℕ × ℕ → Amount) (row : ℕ) (cells : List Cell) : Type 0 where
  pub inside : (k : ℕ) → k < length cells → (cell_at cells k).col < size
  pub rising : (i j : ℕ) → i < j → j < length cells → (cell_at cells i).col < (cell_at cells j).col
  pub each : (k : ℕ) → k < length cells → cell_at cells k ≡ cell_of (cell_at cells k).col (at (row, (cell_at cells k).col))
  pub all : (col : ℕ) → ((k : ℕ) → k < length cells → (cell_at cells k).col ≢ col) → at (row, col) ≡ nothing

-- what contracts see of rows: how many there are, the contributions and part loads of which they are made, the places of row and column
-- at which something can stand, and how many contributions and part loads there is room for
pub record RowsView : Type 0 where
  pub size : ℕ
  pub terms : List Term
  pub loads : List LoadAt
  pub places : List (ℕ × ℕ)
  pub term_room : ℕ
  pub load_room : ℕ

abbrev pub rows_with : PatternView → List Term → List LoadAt → ℕ → ℕ → RowsView
rows_with p ts us m n = record { size = p.size; terms = ts; loads = us; places = p.places; term_room = m; load_room = n }
