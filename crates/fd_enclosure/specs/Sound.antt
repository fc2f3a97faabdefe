-- Claims on a network, and when one is sound. All is in whole numbers, so that anyone who has the claim can compute it again.
use Rattle.std.specs.Prelude.{◌≡◌, ℕ, ◌*◌, ◌<◌, ◌≤◌, ◌^◌, ℤ, nat_abs, nat_lt, IsTrue, List, length, get_or, [], Option, Some, None, Result, Ok, Err}
use Rattle.fd_equations.specs.fd_exact.First.{first_place}
use Rattle.fd_equations.specs.fd_exact.States.{entry}
use Rattle.fd_equations.specs.fd_mat.Rows.{EntriesWithin}
use Rattle.fd_slope.specs.fd_system.Residual.{mismatch_of}
use Rattle.fd_equations.specs.fd_pattern.Conditions.{IsPoint}
use Rattle.fd_equations.specs.Rounded.{jacobian_entry, list_of}
use Rattle.fd_equations.specs.fd_pattern.Views.{NetworkView}
use Rattle.fd_equations.specs.Weights.{weight_at}
use Rattle.fd_enclosure.specs.Bounds.{is_bounded, radius_at, refusal}
use Rattle.fd_factors.specs.Factors.{BoundsUnknown, DerivedRow, IsAbove}
use Rattle.fd_enclosure.specs.Boxes.{boxes_of, part_boxes}
use Rattle.fd_enclosure.specs.Radii.{part_radius, slope_radius}

-- ---- mismatches

-- the greatest mismatch of a solution, in whole microvolts or microamperes
abbrev pub greatest_mismatch : ℕ
greatest_mismatch = 1000

-- the size of a row's interval; one that has no ends counts as one above the greatest mismatch, so its state is no solution
abbrev pub mismatch_size : Option ℤ → ℕ
mismatch_size None = 1001
mismatch_size (Some m) = nat_abs m

-- the mismatch of a row at a state: the greater size of the ends of its residual in intervals. At a point of a network that interval
-- has ends in every row
abbrev pub mismatch_at : NetworkView → List ℤ → ℕ → ℕ
mismatch_at v x l = mismatch_size (mismatch_of v.stamp x l)

unfoldable pub mismatches_of : NetworkView → List ℤ → List ℕ
mismatches_of v x = list_of v.size (mismatch_at v x)

-- the first row whose mismatch is above the greatest
unfoldable pub first_loose : NetworkView → List ℤ → Option ℕ
first_loose v x = first_place (λ l. nat_lt greatest_mismatch (mismatch_at v x l)) v.size

-- ---- what is claimed

-- Rows that are derived from those of the Jacobian in the box of w / parts, a height for each, and for each unknown the row that
-- bounds it and its bound. Rows are in units of 2^-40, bounds in 2^-20 of a whole microvolt or microampere, heights in 2^-40 of that.
pub record DerivedProof : Type 0 where
  pub parts : ℕ
  pub rows : List DerivedRow
  pub heights : List ℕ
  pub bounding : List ℕ
  pub bounds : List ℕ

-- what shows a claim: an inverse of the Jacobian, in units of 2^-40, or derived rows
pub data Support : Type 0 where
  by_inverse : List (List ℤ) → Support
  by_rows : DerivedProof → Support

-- the box that belongs to it is this part of the weights
abbrev pub parts_of : Support → ℕ
parts_of (by_inverse c) = 200
parts_of (by_rows p) = p.parts

-- the inverse; none of derived rows
abbrev pub inverse_in : Support → List (List ℤ)
inverse_in (by_inverse c) = c
inverse_in (by_rows p) = []

-- it is an inverse
abbrev pub IsByInverse : Support → Type 0
IsByInverse (by_inverse c) = Unit {0}
IsByInverse (by_rows p) = ⊥

-- A state, how far from it any other may be, and what shows it: the mismatch of each row, the half-widths of the box in which the others
-- are looked for, and its support. By place, in whole microvolts and microamperes.
pub record Claim : Type 0 where
  pub centre : List ℤ
  pub radii : List ℕ
  pub mismatches : List ℕ
  pub boxes : List ℕ
  pub support : Support

-- a number of a list, 0 outside it
abbrev pub number_at : List ℕ → ℕ → ℕ
number_at xs i = get_or xs i 0

-- n rows with entries of at most 2^56 in size
pub record IsInverse (n : ℕ) (c : List (List ℤ)) : Type 0 where
  pub long : length c ≡ n
  pub small : EntriesWithin c (2 ^ 56)

-- it is an inverse of n rows
abbrev pub HasInverse : ℕ → Support → Type 0
HasInverse n (by_inverse c) = IsInverse n c
HasInverse n (by_rows p) = ⊥

-- ---- its numbers

-- whether the bound of row i is below one
abbrev pub is_certain : NetworkView → List ℤ → List (List ℤ) → ℕ → ℕ → Type 0
is_certain v x c n i = IsTrue (is_bounded n (entry c) (jacobian_entry v x) (slope_radius v x) (weight_at v x) i)

-- the radius of unknown i for the mismatches e
abbrev pub radius_in : NetworkView → List ℤ → List (List ℤ) → List ℕ → ℕ → ℕ
radius_in v x c e i = radius_at v.size (entry c) (jacobian_entry v x) (slope_radius v x) (weight_at v x) (number_at e) i

unfoldable pub radii_of : NetworkView → List ℤ → List (List ℤ) → List ℕ → List ℕ
radii_of v x c e = list_of v.size (radius_in v x c e)

-- ---- sound

-- by an inverse: the bound of every row is below one, and each radius is at least what the mismatches and the bound give
pub record IsShownByInverse (v : NetworkView) (m : Claim) (c : List (List ℤ)) : Type 0 where
  pub inverse : IsInverse v.size c
  pub bounded : (i : ℕ) → i < v.size → is_certain v m.centre c v.size i
  pub radii_least : (i : ℕ) → i < v.size → radius_in v m.centre c m.mismatches i ≤ number_at m.radii i

-- row i of derived rows
abbrev pub row_in : List DerivedRow → ℕ → DerivedRow
row_in rows i = get_or rows i (record { equations = []; others = []; left = [] })

-- the right sides of the rows for these mismatches: a state and its centre may each be off by one
abbrev pub right_side : List ℕ → ℕ → ℕ
right_side e l = 2 ^ 20 * (2 * number_at e l)

-- By derived rows: the height of each stands above it, each unknown has a row that bounds it, and each radius is at least its bound.
pub record IsShownByRows (v : NetworkView) (m : Claim) (p : DerivedProof) : Type 0 where
  pub above : (i : ℕ) → i < length p.rows
      → IsAbove v.size (length p.rows) (2 ^ 40) (jacobian_entry v m.centre) (part_radius p.parts v m.centre) (row_in p.rows)
      (right_side m.mismatches) (number_at p.heights) (number_at p.bounds) i
  pub bounded : (j : ℕ) → j < v.size
      → BoundsUnknown v.size (length p.rows) (2 ^ 40) (jacobian_entry v m.centre) (part_radius p.parts v m.centre) (row_in p.rows)
      (right_side m.mismatches) (number_at p.heights) (number_at p.bounds) (number_at p.bounding j) j
  pub radii_least : (j : ℕ) → j < v.size → number_at p.bounds j ≤ 2 ^ 20 * number_at m.radii j

abbrev pub IsShown : NetworkView → Claim → Support → Type 0
IsShown v m (by_inverse c) = IsShownByInverse v m c
IsShown v m (by_rows p) = IsShownByRows v m p

-- The mismatches are at least the state's own and at most the greatest, the box is the centre's, and the support shows the radii.
pub record IsSound (v : NetworkView) (m : Claim) : Type 0 where
  pub centre : IsPoint v m.centre
  pub boxes : m.boxes ≡ part_boxes (parts_of m.support) v m.centre
  pub mismatches_long : length m.mismatches ≡ v.size
  pub mismatches_least : (l : ℕ) → l < v.size → mismatch_at v m.centre l ≤ number_at m.mismatches l
  pub mismatches_most : (l : ℕ) → l < v.size → number_at m.mismatches l ≤ greatest_mismatch
  pub radii_long : length m.radii ≡ v.size
  pub radii_most : (i : ℕ) → i < v.size → number_at m.radii i ≤ 2 ^ 40
  pub shown : IsShown v m m.support

-- ---- the certificate of a point

-- why a point has none: a row's mismatch is above the greatest; or the bound of an unknown reaches one
pub data Refusal : Type 0 where
  loose : ℕ → ℕ → Refusal
  uncertain : ℕ → Option ℤ → Refusal

-- what is claimed of a point: its own mismatches, and the radii that they give
abbrev pub claim_of : NetworkView → List ℤ → List (List ℤ) → Claim
claim_of v x c = record { centre = x; radii = radii_of v x c (mismatches_of v x); mismatches = mismatches_of v x; boxes = boxes_of v x; support = by_inverse c }

abbrev pub unless_uncertain : NetworkView → List ℤ → List (List ℤ) → Option (ℕ × Option ℤ) → Result Claim Refusal
unless_uncertain v x c None = Ok (claim_of v x c)
unless_uncertain v x c (Some r) = Err (uncertain r.0 r.1)

abbrev pub unless_loose : NetworkView → List ℤ → List (List ℤ) → Option ℕ → Result Claim Refusal
unless_loose v x c None = unless_uncertain v x c (refusal v.size (entry c) (jacobian_entry v x) (slope_radius v x) (weight_at v x) (mismatch_at v x))
unless_loose v x c (Some row) = Err (loose row (mismatch_at v x row))

-- the certificate of the point x with the inverse c; the first row that is loose is named, then the first unknown that is uncertain
unfoldable pub certificate_of : NetworkView → List ℤ → List (List ℤ) → Result Claim Refusal
certificate_of v x c = unless_loose v x c (first_loose v x)
