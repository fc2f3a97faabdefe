-- What a step with factors changes for right sides in whole micro-units.
use Rattle.std.specs.Prelude.{◌≡◌, ℕ, ◌^◌, ℤ, neg_ℤ, List, length, Some, ◌⊎◌}
use Rattle.fd_inject.specs.Ranges.{SizesWithin, first_past}
use Rattle.fd_inject.specs.declared.fault.SolveFault.{SolveFault}
use Rattle.fd_inject.specs.declared.fault.SolveFault.TheVariants.{NoInverse, OutOfRange, NotConverged, NoMemory}
use Rattle.fd_inject.specs.fd_equations.Rounded.{list_of}
use Rattle.fd_inject.specs.fd_equations.fd_exact.Rounding.{near_div}
use Rattle.fd_substitution.specs.Substitution.{EndsLower, EndsUpper, LowerAreWithin, UpperAreWithin, upper}
use Rattle.fd_substitution.specs.fd_triangles.declared.pair.Pair.{Pair}
use Rattle.fd_substitution.specs.fd_triangles.fd_derived.declared.entries.Row.{Row}

module _ (rows : List Row) (order : List Pair) (right : List ℤ) where
  -- how much each unknown changes: by its move, with the sign turned
  abbrev pub change_at : ℕ → ℤ
  change_at j = neg_ℤ (near_div (upper rows order right (length order) j) (2 ^ 20))

  unfoldable pub changes : List ℤ
  changes = list_of (length order) change_at

  -- all that the moves are made of is within its range
  pub record CanMove : Type 0 where
    pub right_within : SizesWithin (2 ^ 42) right
    pub lower_within : LowerAreWithin rows order right (length order)
    pub upper_within : UpperAreWithin rows order right (length order)

  -- the first that isn't: a right side, at its own place, or a number of the substitution, at the unknown of its place
  abbrev pub MoveEnds : ℕ → Type 0
  MoveEnds q =
      (first_past (2 ^ 42) right ≡ Some q)
      ⊎ (SizesWithin (2 ^ 42) right × (EndsLower rows order right q ⊎ EndsUpper rows order right q))

  -- why there are no moves behind so many steps; want of memory says nothing
  abbrev pub HasNoMoves : ℕ → SolveFault → Type 0
  HasNoMoves number (NoInverse q cause) = ⊥
  HasNoMoves number (OutOfRange place step) = MoveEnds place × (step ≡ number)
  HasNoMoves number (NotConverged place steps update) = ⊥
  HasNoMoves number NoMemory = Unit {0}
