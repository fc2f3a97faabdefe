-- Passes over rows in order: from bounds of the unknowns to heights of the rows, and from these to new bounds.
use Rattle.std.specs.Prelude.{◌≡◌, ℕ, zero, suc, ◌+◌, ◌-◌, ◌/◌, ◌^◌, ◌||◌, nat_le, nat_lt, Bool, if◌then◌else◌, List, length, Option, Some, None, option_map}
use Rattle.std.specs.Option.{option_or}
use Rattle.fd_substitution.specs.fd_derived.fd_factors.Factors.{slack, weighted_size}
use Rattle.fd_substitution.specs.fd_derived.fd_factors.fd_exact.First.{first_place}
use Rattle.fd_substitution.specs.fd_derived.Refusals.{added_sizes}
use Rattle.fd_substitution.specs.fd_derived.Rows.{coefficient, number_at, radius, right_side_at, row_at}
use Rattle.fd_substitution.specs.fd_derived.declared.entries.Equation.{Equation}
use Rattle.fd_substitution.specs.fd_derived.declared.entries.Row.{Row}
use Rattle.fd_substitution.specs.Filling.{filled}
use Rattle.fd_bounds.specs.Rows.{pivot_at, rest_at, unknown_at}
use Rattle.fd_bounds.specs.declared.fault.BoundFault.{BoundFault}
use Rattle.fd_bounds.specs.declared.fault.BoundFault.TheVariants.{NoMemory, Unbounded}

-- the quotient rounded down, and one: the least number that stands above s when it is taken so many times
abbrev pub above_part : ℕ → ℕ → ℕ
above_part s times = s / times + 1

-- bounds of n unknowns, each raised by a part in 2^20, and by one
abbrev pub raised : ℕ → (ℕ → ℕ) → ℕ → ℕ
raised n r j = (if nat_lt j n then r j + r j / 2 ^ 20 + 1 else 0)

-- ---- from heights to bounds

-- the bound over a sum is too large, or the sum is
abbrev pub is_wide_over : ℕ → ℕ → Bool
is_wide_over s pivot = nat_le (2 ^ 127) s || nat_lt (2 ^ 60) (above_part s pivot)

abbrev pub bound_unless_wide : ℕ → ℕ → Option ℕ
bound_unless_wide s pivot = (if is_wide_over s pivot then None else Some (above_part s pivot))

module _ (rows : List Row) where
  -- what the bound of a row's unknown, times the pivot, has to stand above, where the rows have the heights h and the
  -- unknowns of later rows the bounds r
  abbrev pub remainder : (ℕ → ℕ) → (ℕ → ℕ) → ℕ → ℕ
  remainder h r t = weighted_size (rest_at rows t) r + h t

  -- the row that has so many behind it
  abbrev pub from_last : ℕ → ℕ
  from_last d = length rows - suc d

  -- its unknown, and the bound of that by those of the unknowns of the rows behind
  abbrev pub unknown_from_last : ℕ → ℕ
  unknown_from_last d = unknown_at rows (from_last d)

  abbrev pub bound_made : (ℕ → ℕ) → (ℕ → ℕ) → ℕ → ℕ
  bound_made h r d = above_part (remainder h r (from_last d)) (pivot_at rows (from_last d))

  -- the bounds of the unknowns of the last so many rows; of the others none yet
  abbrev pub bounds : (ℕ → ℕ) → ℕ → ℕ → ℕ
  bounds h = filled 0 unknown_from_last (bound_made h)

  -- a sum is 2^127 or more or the bound past 2^60, at the row that has so many behind it
  abbrev pub is_wide : (ℕ → ℕ) → ℕ → Bool
  is_wide h d = is_wide_over (remainder h (bounds h d) (from_last d)) (pivot_at rows (from_last d))

  -- the unknown of the last row of which that is so
  abbrev pub bounds_end : (ℕ → ℕ) → Option ℕ
  bounds_end h = option_map unknown_from_last (first_place (is_wide h) (length rows))

  -- the list has the bounds over heights h
  pub record AreBounds (n : ℕ) (h : ℕ → ℕ) (list : List ℕ) : Type 0 where
    pub long : length list ≡ n
    pub each : (j : ℕ) → number_at list j ≡ bounds h (length rows) j
    pub ends : bounds_end h ≡ None

module _ (es : List Equation) (rows : List Row) where
  -- ---- from bounds to heights

  -- what the height of a row has to stand above, where the unknowns have the bounds c and the rows the heights h
  abbrev pub load : (ℕ → ℕ) → (ℕ → ℕ) → ℕ → ℕ
  load c h t = weighted_size (row_at rows t).others h
      + slack (length es) (length rows) (2 ^ 40) (coefficient es) (radius es) (row_at rows) (right_side_at es) h c t

  -- its height, by those of the rows before it
  abbrev pub height_made : (ℕ → ℕ) → (ℕ → ℕ) → ℕ → ℕ
  height_made c h t = above_part (load c h t) (2 ^ 40)

  -- the heights of the first so many rows; of the others none yet
  abbrev pub heights : (ℕ → ℕ) → ℕ → ℕ → ℕ
  heights c = filled 0 (λ t. t) (height_made c)

  -- a sum is 2^127 or more
  abbrev pub is_high : (ℕ → ℕ) → ℕ → Bool
  is_high c t = nat_le (2 ^ 127) (load c (heights c t) t)

  -- the unknown of the first row of which that is so
  abbrev pub heights_end : (ℕ → ℕ) → Option ℕ
  heights_end c = option_map (unknown_at rows) (first_place (is_high c) (length rows))

  -- the list has the heights over bounds c
  pub record AreHeights (c : ℕ → ℕ) (list : List ℕ) : Type 0 where
    pub long : length list ≡ length rows
    pub each : (t : ℕ) → number_at list t ≡ heights c (length rows) t
    pub ends : heights_end c ≡ None

  -- ---- one pass after another

  -- a pass over bounds c has these heights and new bounds
  pub record IsPass (c : ℕ → ℕ) (hs bs : List ℕ) : Type 0 where
    pub heights_are : AreHeights c hs
    pub bounds_are : AreBounds rows (length es) (heights c (length rows)) bs

  abbrev pub pass_heights : (ℕ → ℕ) → ℕ → ℕ
  pass_heights c = heights c (length rows)

  abbrev pub pass_bounds : (ℕ → ℕ) → ℕ → ℕ
  pass_bounds c = bounds rows (pass_heights c) (length rows)

  -- the unknown at which a pass over bounds c ends, if it does
  abbrev pub pass_end : (ℕ → ℕ) → Option ℕ
  pass_end c = option_or (heights_end c) (bounds_end rows (pass_heights c))

  -- the bounds after so many passes, each over those of the one before, raised
  unfoldable pub bounds_after : ℕ → ℕ → ℕ
  bounds_after zero j = 0
  bounds_after (suc k) j = pass_bounds (raised (length es) (bounds_after k)) j

  abbrev pub bounds_over : ℕ → ℕ → ℕ
  bounds_over k = raised (length es) (bounds_after k)

  -- the first unknown whose new bound is above the one that the pass was over
  abbrev pub risen : ℕ → Option ℕ
  risen k = first_place (λ j. nat_lt (bounds_over k j) (bounds_after (suc k) j)) (length es)

  -- the first row whose added sizes are past 2^120
  abbrev pub row_past : Option ℕ
  row_past = first_place (λ t. nat_lt (2 ^ 120) (added_sizes es rows t)) (length rows)

-- a fault tells of such an end; want of memory says nothing
abbrev pub IsEnd : BoundFault → Option ℕ → Type 0
IsEnd (Unbounded q) end = end ≡ Some q
IsEnd NoMemory end = Unit {0}
