-- Rows that are derived from the rows of a Jacobian, and numbers that stand above them. All in whole numbers.
use Rattle.std.specs.Prelude.{◌≡◌, ℕ, ◌+◌, ◌*◌, ◌<◌, ◌≤◌, ℤ, pos, ◌-ℤ◌, ◌*ℤ◌, nat_abs, cond, eqb, List, ◌∷◌}
use Rattle.std.specs.List.{All}
use Rattle.fd_exact.specs.Sums.{sum_n, sum_z, list_n, list_z}

-- ---- rows by their entries

-- an entry: its place, and the number there
abbrev pub Entry : Type 0
Entry = ℕ × ℤ

-- the number at a place of a row: the sum of its entries there
abbrev pub sum_at : List Entry → ℕ → ℤ
sum_at row j = list_z (λ t. cond (eqb t.0 j) t.1 (pos 0)) row

-- the sizes of a row's entries at a place
abbrev pub sizes_at : List Entry → ℕ → ℕ
sizes_at row j = list_n (λ t. cond (eqb t.0 j) (nat_abs t.1) 0) row

-- the sizes of a row's entries, each times the number of its place
abbrev pub weighted_size : List Entry → (ℕ → ℕ) → ℕ
weighted_size row a = list_n (λ t. nat_abs t.1 * a t.0) row

-- a row's entries stand at places below n
abbrev pub HasPlaces : ℕ → List Entry → Type 0
HasPlaces n row = All (λ t. t.0 < n) row

-- ---- derived rows

-- A row that is derived: what multiples of equations, less multiples of other derived rows, leave. With one equation
-- each, and rows in the order of an elimination, the others and what is left are its two triangular factors; with many
-- equations, no others, and an entry at one unknown left, the equations are an inverse.
pub record DerivedRow : Type 0 where
  pub equations : List Entry
  pub others : List Entry
  pub left : List Entry

-- n equations in n unknowns, with coefficients J and radii R of the coefficients, in units of 1 / s; and m derived rows,
-- whose numbers are in these units too
module _ (n m s : ℕ) (J : ℕ → ℕ → ℤ) (R : ℕ → ℕ → ℕ) (rows : ℕ → DerivedRow) where
  -- what a row leaves, at a place
  abbrev pub left_at : ℕ → ℕ → ℤ
  left_at i j = sum_at (rows i).left j

  -- by how much it is not what the equations and the other rows leave, in units of 1 / s^2
  unfoldable pub defect : ℕ → ℕ → ℤ
  defect i j =
      list_z (λ t. t.1 *ℤ J t.0 j) (rows i).equations
      -ℤ list_z (λ t. t.1 *ℤ left_at t.0 j) (rows i).others
      -ℤ pos s *ℤ left_at i j

  -- the equations, the other rows and the unknowns that a row names exist
  pub record IsPlaced (i : ℕ) : Type 0 where
    pub equations : HasPlaces n (rows i).equations
    pub others : HasPlaces m (rows i).others
    pub left : HasPlaces n (rows i).left

  -- ---- numbers above them: b for the right sides of equations, h for derived rows, r for unknowns

  module _ (b h r : ℕ → ℕ) where
    -- what an equation may be off by, where the unknowns are at most r
    abbrev pub allowance : ℕ → ℕ
    allowance l = sum_n (λ j. R l j * r j) n + s * b l

    -- what a derived row may be off by: by its equations, and by its defects
    unfoldable pub slack : ℕ → ℕ
    slack i = weighted_size (rows i).equations allowance + sum_n (λ j. nat_abs (defect i j) * r j) n

    -- the height h of a row stands above it: above its slack and what it takes from other rows
    pub record IsAbove (i : ℕ) : Type 0 where
      pub placed : IsPlaced i
      pub above : weighted_size (rows i).others h + slack i < s * h i

    -- row i bounds the unknown j by r: its first entry is there, the pivot, and r stands above what else it leaves
    pub record BoundsUnknown (i j : ℕ) : Type 0 where
      pub row : i < m
      pub pivot : ℤ
      pub rest : List Entry
      pub left : (rows i).left ≡ (j, pivot) ∷ rest
      pub above : weighted_size rest r + h i < nat_abs pivot * r j

  -- ---- what equations say of a vector y: each is at most what its radii allow, and its right side b, over the
  -- denominator d

  abbrev pub RowsHold : (ℕ → ℕ) → ℕ → (ℕ → ℤ) → Type 0
  RowsHold b d y = (l : ℕ) → l < n →
      nat_abs (sum_z (λ j. J l j *ℤ y j) n) ≤ sum_n (λ j. R l j * nat_abs (y j)) n + d * (s * b l)

-- Where the heights h stand above all derived rows, and each unknown has a row that bounds it by r, whatever meets the
-- equations is at most r. The law asks for no order of the rows, no triangles, no inverse and no bound of a norm, and it
-- doesn't matter how the rows were found.
abbrev pub FactorLaw : Type 0
FactorLaw =
    (n m s : ℕ) (J : ℕ → ℕ → ℤ) (R : ℕ → ℕ → ℕ) (rows : ℕ → DerivedRow) (bounding : ℕ → ℕ) (b h r : ℕ → ℕ)
    (d : ℕ) (y : ℕ → ℤ)
    → ((i : ℕ) → i < m → IsAbove n m s J R rows b h r i)
    → ((j : ℕ) → j < n → BoundsUnknown n m s J R rows b h r (bounding j) j)
    → RowsHold n m s J R rows b d y
    → (j : ℕ) → j < n → nat_abs (y j) ≤ d * r j
