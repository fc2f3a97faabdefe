-- Claims that are accepted, and what they say of states.
use Rattle.std.specs.Prelude.{◌≡◌, ◌≢◌, ℕ, ◌*◌, ◌<◌, ◌≤◌, ◌^◌, ℤ, Bool, List, length}
use Rattle.fd_factors.specs.Enclosure.{Encloses, Follows, IsWithin, centre_state}
use Rattle.fd_factors.specs.Factors.{DerivedRow}
use Rattle.fd_factors.specs.fd_exact.Fractions.{Fraction}
use Rattle.fd_factors.specs.fd_exact.States.{State}
use Rattle.fd_derived.specs.Refusals.{added, place_at}
use Rattle.fd_derived.specs.Rows.{HeightIsAbove, IsBounded, bound_of, coefficient, height_of, number_of_rows, radius, right_side_at, rows_of}
use Rattle.fd_derived.specs.declared.entries.Claim.{Claim}
use Rattle.fd_derived.specs.declared.entries.Equation.{Equation}

-- no two entries of a row are at one place
abbrev pub HasDistinctPlaces : List (ℕ × ℤ) → Type 0
HasDistinctPlaces row = (i k : ℕ) → i < k → k < length row → place_at row i ≢ place_at row k

-- a row names no equation, no row and no unknown twice
pub record NamesOnce (row : DerivedRow) : Type 0 where
  pub equations : HasDistinctPlaces row.equations
  pub others : HasDistinctPlaces row.others
  pub left : HasDistinctPlaces row.left

module _ (es : List Equation) (c : Claim) where
  -- a height for each row; for each of the unknowns, which are as many as equations, a row and a bound
  pub record HasSize : Type 0 where
    pub heights : length c.heights.items ≡ number_of_rows c
    pub bounding : length c.bounding.items ≡ length es
    pub bounds : length c.bounds.items ≡ length es

  -- each height stands above its row, each unknown has a row that bounds it, and no number and no sum is past its size
  pub record IsAccepted : Type 0 where
    pub size : HasSize
    pub once : (i : ℕ) → i < number_of_rows c → NamesOnce (rows_of c i)
    pub low_height : (i : ℕ) → i < number_of_rows c → height_of c i ≤ 2 ^ 87
    pub low_sums : (i : ℕ) → i < number_of_rows c → added es c i ≤ 2 ^ 120
    pub above : (i : ℕ) → i < number_of_rows c → HeightIsAbove es c i
    pub low_bound : (j : ℕ) → j < length es → bound_of c j ≤ 2 ^ 60
    pub bounded : (j : ℕ) → j < length es → IsBounded es c j

-- Where a claim is accepted, the equations' rows follow their coefficients in the box, up to their radii, and right sides
-- are at least twice the mismatches, in units of 1 / v: every state in the box that meets the mismatches is within the
-- bounds of a centre that meets them.
abbrev pub AcceptedLaw : Type 0
AcceptedLaw =
    (es : List Equation) (claim : Claim) (F : State → ℕ → Fraction) (box : State → Bool) (c : List ℤ) (e : ℕ → ℕ) (v : ℕ)
    → IsAccepted es claim
    → ((x : State) (l : ℕ) → 0 < x.over → 0 < (F x l).over)
    → Follows (length es) F box c (coefficient es) (radius es)
    → IsWithin (length es) F e (centre_state (length es) F c)
    → ((l : ℕ) → l < length es → v * (2 * e l) ≤ right_side_at es l)
    → Encloses (length es) F box c e v (bound_of claim)
