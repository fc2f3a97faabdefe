-- The step that factors make of right sides: the numbers of the places, from the first on, and from them those of the
-- unknowns, from the last place on.
use Rattle.std.specs.Prelude.{◌≡◌, ℕ, suc, ◌-◌, ◌<◌, ◌^◌, ℤ, pos, ◌*ℤ◌, nat_abs, List, length, drop, ◌⊎◌}
use Rattle.fd_substitution.specs.Filling.{filled}
use Rattle.fd_substitution.specs.Sums.{IsInside, IsPast, IsWithin, lowered, raised}
use Rattle.fd_substitution.specs.declared.fault.StepFault.{StepFault}
use Rattle.fd_substitution.specs.declared.fault.StepFault.TheVariants.{NoMemory, Range}
use Rattle.fd_triangles.specs.Elimination.{pair_at}
use Rattle.fd_triangles.specs.Factors.{parts_in}
use Rattle.fd_triangles.specs.Rows.{entry_at}
use Rattle.fd_triangles.specs.declared.pair.Pair.{Pair}
use Rattle.fd_triangles.specs.fd_derived.fd_factors.fd_exact.Rounding.{near_div}
use Rattle.fd_triangles.specs.fd_derived.fd_factors.fd_exact.States.{part}
use Rattle.fd_triangles.specs.fd_derived.declared.entries.Entry.{Entry}
use Rattle.fd_triangles.specs.fd_derived.declared.entries.Row.{Row}

-- ---- the row at a place

module _ (rows : List Row) where
  -- the multiples of other rows that it loses
  abbrev pub others_at : ℕ → List Entry
  others_at t = (parts_in rows t).others

  -- its first entry, the pivot, and the entries behind it
  abbrev pub pivot_at : ℕ → ℤ
  pivot_at t = (entry_at (parts_in rows t).left 0).units

  abbrev pub rest_at : ℕ → List Entry
  rest_at t = drop 1 (parts_in rows t).left

-- ---- the place with so many behind it, and its unknown

abbrev pub place_before : List Pair → ℕ → ℕ
place_before order s = length order - suc s

abbrev pub unknown_before : List Pair → ℕ → ℕ
unknown_before order s = (pair_at order (place_before order s)).unknown

module _ (rows : List Row) (order : List Pair) where
  -- each place has a row, whose entries are at places and unknowns that exist, and whose pivot isn't 0
  pub record CanStep : Type 0 where
    pub long : length rows ≡ length order
    pub unknowns : (t : ℕ) → t < length order → (pair_at order t).unknown < length order
    pub equations : (t : ℕ) → t < length order → (pair_at order t).equation < length order
    pub others : (t : ℕ) → t < length order → IsInside (length order) (others_at rows t)
    pub rest : (t : ℕ) → t < length order → IsInside (length order) (rest_at rows t)
    pub pivots : (t : ℕ) → t < length order → 0 < nat_abs (pivot_at rows t)

  module _ (right : List ℤ) where
    -- ---- the numbers of the places, in 2^-20 of the unit of the right sides

    -- that of a place: the right side of its equation, less the multiples of numbers before it
    abbrev pub lower_made : (ℕ → ℤ) → ℕ → ℤ
    lower_made y t = lowered (part right (pair_at order t).equation) (others_at rows t) y

    abbrev pub lower : ℕ → ℕ → ℤ
    lower = filled (pos 0) (λ t. t) lower_made

    -- the number of a place, and all that it is made of, is within its range
    abbrev pub LowerIsWithin : ℕ → Type 0
    LowerIsWithin t = IsWithin (pos 0) (others_at rows t) (lower t) (lower_made (lower t) t)

    abbrev pub LowerIsPast : ℕ → Type 0
    LowerIsPast t = IsPast (pos 0) (others_at rows t) (lower t) (lower_made (lower t) t)

    abbrev pub number_of : ℕ → ℤ
    number_of t = lower (length order) t

    -- ---- the numbers of the unknowns, in the same unit

    -- what the sum of a place begins with, in units of 2^-60
    abbrev pub upper_start : ℕ → ℤ
    upper_start s = pos (2 ^ 40) *ℤ number_of (place_before order s)

    -- that of its unknown: what the other entries leave of the number of the place, over the pivot
    abbrev pub upper_made : (ℕ → ℤ) → ℕ → ℤ
    upper_made d s =
        raised (number_of (place_before order s)) (rest_at rows (place_before order s)) d
        (pivot_at rows (place_before order s))

    abbrev pub upper : ℕ → ℕ → ℤ
    upper = filled (pos 0) (unknown_before order) upper_made

    abbrev pub UpperIsWithin : ℕ → Type 0
    UpperIsWithin s = IsWithin (upper_start s) (rest_at rows (place_before order s)) (upper s) (upper_made (upper s) s)

    abbrev pub UpperIsPast : ℕ → Type 0
    UpperIsPast s = IsPast (upper_start s) (rest_at rows (place_before order s)) (upper s) (upper_made (upper s) s)

    -- ---- what is answered

    abbrev pub LowerAreWithin : ℕ → Type 0
    LowerAreWithin n = (t : ℕ) → t < n → LowerIsWithin t

    abbrev pub UpperAreWithin : ℕ → Type 0
    UpperAreWithin n = (s : ℕ) → s < n → UpperIsWithin s

    -- the numbers of all places, within their ranges
    pub record AreLower (y : List ℤ) : Type 0 where
      pub long : length y ≡ length order
      pub each : (t : ℕ) → part y t ≡ number_of t
      pub within : LowerAreWithin (length order)

    -- those of all unknowns
    pub record AreUpper (d : List ℤ) : Type 0 where
      pub long : length d ≡ length order
      pub each : (j : ℕ) → part d j ≡ upper (length order) j
      pub within : UpperAreWithin (length order)

    -- how each unknown moves: its number in whole units, to the nearest
    pub record AreMoves (moves : List ℤ) : Type 0 where
      pub lower_within : LowerAreWithin (length order)
      pub upper_within : UpperAreWithin (length order)
      pub long : length moves ≡ length order
      pub each : (j : ℕ) → j < length order → part moves j ≡ near_div (upper (length order) j) (2 ^ 20)

    -- the number of a place is the first that is past its range
    pub record EndsLower (q : ℕ) : Type 0 where
      pub place : ℕ
      pub place_in : place < length order
      pub unknown_is : q ≡ (pair_at order place).unknown
      pub before : LowerAreWithin place
      pub past : LowerIsPast place

    -- or that of an unknown is, those of all places being within theirs
    pub record EndsUpper (q : ℕ) : Type 0 where
      pub behind : ℕ
      pub behind_in : behind < length order
      pub unknown_is : q ≡ unknown_before order behind
      pub lower_within : LowerAreWithin (length order)
      pub before : UpperAreWithin behind
      pub past : UpperIsPast behind

    -- why there is no step; want of memory says nothing
    abbrev pub HasEnded : StepFault → Type 0
    HasEnded (Range q) = EndsLower q ⊎ EndsUpper q
    HasEnded NoMemory = Unit {0}
