-- The trust box of a centre: the states of which a certificate speaks.
use Rattle.std.specs.Prelude.{◌≢◌, ℕ, ◌*◌, ◌<◌, ◌≤◌, ℤ, nat_abs, List}
use Rattle.fd_equations.specs.fd_exact.Rounding.{ceil_nat}
use Rattle.fd_equations.specs.fd_exact.States.{State, away}
use Rattle.fd_equations.specs.fd_pattern.declared.layout.PlaceKind.{PlaceKind}
use Rattle.fd_equations.specs.fd_pattern.declared.layout.PlaceKind.TheVariants.{Node, Branch, Magnitude}
use Rattle.fd_equations.specs.Rounded.{list_of}
use Rattle.fd_equations.specs.fd_pattern.Views.{NetworkView, kind_of}
use Rattle.fd_equations.specs.Weights.{weight_at}

-- In the box of a part of the weights, w / parts, a part of a voltage and a magnitude have that part of their weight, rounded up; a
-- current has none.
abbrev pub part_width_by : ℕ → PlaceKind → ℕ → ℕ
part_width_by parts Node weight = ceil_nat weight parts
part_width_by parts Branch weight = 0
part_width_by parts Magnitude weight = ceil_nat weight parts

-- the half-width of that box around the centre c at a place, in whole microvolts
abbrev pub part_width : ℕ → NetworkView → List ℤ → ℕ → ℕ
part_width parts v c place = part_width_by parts (kind_of v place) (weight_at v c place)

abbrev pub part_boxes : ℕ → NetworkView → List ℤ → List ℕ
part_boxes parts v c = list_of v.size (part_width parts v c)

-- The state x, of any denominator, lies in that box around c: each part of a voltage and each magnitude is within its half-width of the
-- centre. Currents are free.
abbrev pub IsInPart : ℕ → NetworkView → List ℤ → State → Type 0
IsInPart parts v c x =
    (place : ℕ) → place < v.size → kind_of v place ≢ Branch → nat_abs (away c x place) ≤ x.over * part_width parts v c place

-- ---- the box of a two-hundredth

abbrev pub half_width_by : PlaceKind → ℕ → ℕ
half_width_by = part_width_by 200

abbrev pub half_width : NetworkView → List ℤ → ℕ → ℕ
half_width = part_width 200

abbrev pub boxes_of : NetworkView → List ℤ → List ℕ
boxes_of = part_boxes 200

abbrev pub IsInTrustBox : NetworkView → List ℤ → State → Type 0
IsInTrustBox = IsInPart 200
