-- What the code's equations and derived rows stand for, in the terms of the law.
use Rattle.std.specs.Prelude.{ℕ, ◌+◌, ◌^◌, ℤ, List, [], length, map, get_or}
use Rattle.fd_factors.specs.Factors.{BoundsUnknown, DerivedRow, IsAbove, IsPlaced, allowance, defect, sizes_at, slack, sum_at, weighted_size}
use Rattle.fd_derived.specs.declared.entries.Claim.{Claim}
use Rattle.fd_derived.specs.declared.entries.Entry.{Entry}
use Rattle.fd_derived.specs.declared.entries.Equation.{Equation}
use Rattle.fd_derived.specs.declared.entries.Row.{Row}

-- ---- rows

abbrev pub entry_of : Entry → ℕ × ℤ
entry_of e = (e.place, e.units)

abbrev pub entries_of : List Entry → List (ℕ × ℤ)
entries_of es = map entry_of es

abbrev pub coefficients_of : Equation → List (ℕ × ℤ)
coefficients_of e = entries_of e.coefficients.items

abbrev pub radii_of : Equation → List (ℕ × ℤ)
radii_of e = entries_of e.radii.items

abbrev pub right_side_of : Equation → ℕ
right_side_of e = e.right_side

abbrev pub derived_row : Row → DerivedRow
derived_row r = record { equations = entries_of r.equations.items; others = entries_of r.others.items; left = entries_of r.left.items }

-- ---- lists: what stands at a number, and nothing outside

abbrev pub number_at : List ℕ → ℕ → ℕ
number_at xs i = get_or xs i 0

abbrev pub coefficients_at : List Equation → ℕ → List (ℕ × ℤ)
coefficients_at es l = get_or (map coefficients_of es) l []

abbrev pub radii_at : List Equation → ℕ → List (ℕ × ℤ)
radii_at es l = get_or (map radii_of es) l []

abbrev pub right_side_at : List Equation → ℕ → ℕ
right_side_at es l = number_at (map right_side_of es) l

abbrev pub coefficient : List Equation → ℕ → ℕ → ℤ
coefficient es l j = sum_at (coefficients_at es l) j

abbrev pub radius : List Equation → ℕ → ℕ → ℕ
radius es l j = sizes_at (radii_at es l) j

abbrev pub no_row : DerivedRow
no_row = record { equations = []; others = []; left = [] }

abbrev pub row_at : List Row → ℕ → DerivedRow
row_at rows i = get_or (map derived_row rows) i no_row

-- ---- of rows alone, for equations as many as unknowns

module _ (es : List Equation) (rows : List Row) where
  -- by how much a row is wrong, at a place
  abbrev pub row_defect : ℕ → ℕ → ℤ
  row_defect i j = defect (length es) (length rows) (2 ^ 40) (coefficient es) (radius es) (row_at rows) i j

  -- what a row names exists
  abbrev pub NamesExist : ℕ → Type 0
  NamesExist i = IsPlaced (length es) (length rows) (2 ^ 40) (coefficient es) (radius es) (row_at rows) i

-- ---- the law's conditions on a claim

module _ (c : Claim) where
  abbrev pub number_of_rows : ℕ
  number_of_rows = length c.rows.items

  abbrev pub rows_of : ℕ → DerivedRow
  rows_of i = row_at c.rows.items i

  abbrev pub height_of : ℕ → ℕ
  height_of i = number_at c.heights.items i

  abbrev pub bound_of : ℕ → ℕ
  bound_of j = number_at c.bounds.items j

  abbrev pub bounding_row : ℕ → ℕ
  bounding_row j = number_at c.bounding.items j

module _ (es : List Equation) (c : Claim) where
  -- what an equation may be off by, where the unknowns are within the bounds
  abbrev pub allowance_of : ℕ → ℕ
  allowance_of l =
      allowance (length es) (number_of_rows c) (2 ^ 40) (coefficient es) (radius es) (rows_of c) (right_side_at es) (height_of c) (bound_of c) l

  abbrev pub defect_of : ℕ → ℕ → ℤ
  defect_of i j = row_defect es c.rows.items i j

  abbrev pub RowIsPlaced : ℕ → Type 0
  RowIsPlaced i = NamesExist es c.rows.items i

  -- what the height of a row has to stand above
  abbrev pub load_of : ℕ → ℕ
  load_of i = weighted_size (rows_of c i).others (height_of c)
      + slack (length es) (number_of_rows c) (2 ^ 40) (coefficient es) (radius es) (rows_of c) (right_side_at es) (height_of c) (bound_of c) i

  -- the height of a row stands above it
  abbrev pub HeightIsAbove : ℕ → Type 0
  HeightIsAbove i =
      IsAbove (length es) (number_of_rows c) (2 ^ 40) (coefficient es) (radius es) (rows_of c) (right_side_at es) (height_of c) (bound_of c) i

  -- the row that is to bound an unknown does
  abbrev pub IsBounded : ℕ → Type 0
  IsBounded j =
      BoundsUnknown (length es) (number_of_rows c) (2 ^ 40) (coefficient es) (radius es) (rows_of c) (right_side_at es) (height_of c) (bound_of c)
      (bounding_row c j) j
