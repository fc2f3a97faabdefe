-- The rules that a claim may break, in their order, and the first that it breaks.
use Rattle.std.specs.Prelude.{ℕ, zero, suc, ◌+◌, ◌*◌, ◌^◌, ◌==◌, ◌&&◌, ◌||◌, ℤ, pos, nat_abs, nat_le, nat_lt, Bool, false, cond, is_none, List, [], ◌∷◌, length, get_or, take, Option, Some, None}
use Rattle.std.specs.List.{list_any}
use Rattle.std.specs.Option.{option_or}
use Rattle.fd_factors.specs.Factors.{DerivedRow, weighted_size}
use Rattle.fd_factors.specs.fd_exact.First.{first_place}
use Rattle.fd_derived.specs.Rows.{bound_of, bounding_row, coefficients_at, height_of, load_of, number_of_rows, row_at, rows_of}
use Rattle.fd_derived.specs.Sums.{size_of}
use Rattle.fd_derived.specs.declared.entries.Claim.{Claim}
use Rattle.fd_derived.specs.declared.entries.Equation.{Equation}
use Rattle.fd_derived.specs.declared.entries.Row.{Row}
use Rattle.fd_derived.specs.declared.refusal.Refusal.{Refusal}
use Rattle.fd_derived.specs.declared.refusal.Refusal.TheVariants.{Bound, BoundRange, Height, Place, Range, Size}

-- ---- places

abbrev pub place_at : List (ℕ × ℤ) → ℕ → ℕ
place_at row k = (get_or row k (0, pos 0)).0

-- some entry of a row is at the place
abbrev pub is_named : List (ℕ × ℤ) → ℕ → Bool
is_named row p = list_any (λ t. t.0 == p) row

-- the place of an entry isn't below n, or an earlier entry has it
abbrev pub is_misplaced : ℕ → List (ℕ × ℤ) → ℕ → Bool
is_misplaced n row k = nat_le n (place_at row k) || is_named (take k row) (place_at row k)

abbrev pub has_places : ℕ → List (ℕ × ℤ) → Bool
has_places n row = is_none (first_place (is_misplaced n row) (length row))

-- the equations, the other rows and the unknowns that a row names exist, and are named once
abbrev pub is_placed : ℕ → ℕ → DerivedRow → Bool
is_placed n m row = has_places n row.equations && (has_places m row.others && has_places n row.left)

-- ---- an unknown's row

-- the first entry is at the place, and stands above the others and a height more
abbrev pub stands_over : List (ℕ × ℤ) → ℕ → ℕ → (ℕ → ℕ) → Bool
stands_over [] j h r = false
stands_over (t ∷ rest) j h r = t.0 == j && nat_lt (weighted_size rest r + h) (nat_abs t.1 * r j)

-- the first that is found at the numbers below n
abbrev pub first_found : {A : Type 0} → (ℕ → Option A) → ℕ → Option A
first_found f zero = None
first_found f (suc n) = option_or (first_found f n) (f n)

-- the rule that an unknown's bound breaks first
abbrev pub unknown_refusal : Claim → ℕ → Option Refusal
unknown_refusal c j =
    cond (nat_le (bound_of c j) (2 ^ 60))
    (cond (stands_over (rows_of c (bounding_row c j)).left j (height_of c (bounding_row c j)) (bound_of c))
    None (Some (Bound j)))
    (Some (BoundRange j))

-- the sizes of all that makes the defects of a row, at all places together, in units of 2^-80
unfoldable pub added_sizes : List Equation → List Row → ℕ → ℕ
added_sizes es rows i = weighted_size (row_at rows i).equations (λ l. size_of (coefficients_at es l))
    + weighted_size (row_at rows i).others (λ k. size_of (row_at rows k).left)
    + 2 ^ 40 * size_of (row_at rows i).left

module _ (es : List Equation) (c : Claim) where
  abbrev pub added : ℕ → ℕ
  added i = added_sizes es c.rows.items i

  abbrev pub is_in_range : ℕ → Bool
  is_in_range i = nat_le (height_of c i) (2 ^ 87) && nat_le (added i) (2 ^ 120)

  -- the rule that a row breaks first
  abbrev pub row_refusal : ℕ → Option Refusal
  row_refusal i =
      cond (is_placed (length es) (number_of_rows c) (rows_of c i))
      (cond (is_in_range i)
      (cond (nat_lt (load_of es c i) (2 ^ 40 * height_of c i)) None (Some (Height i)))
      (Some (Range i)))
      (Some (Place i))

  abbrev pub has_size : Bool
  has_size = (length c.heights.items == number_of_rows c)
      && ((length c.bounding.items == length es) && (length c.bounds.items == length es))

  -- the rule that a claim breaks first
  unfoldable pub first_refusal : Option Refusal
  first_refusal = cond has_size
      (option_or (first_found row_refusal (number_of_rows c)) (first_found (unknown_refusal c) (length es)))
      (Some Size)
