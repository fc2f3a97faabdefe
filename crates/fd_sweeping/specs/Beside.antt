-- What a sweep comes to beside a certified state of a network.
use Rattle.std.specs.Prelude.{ℕ, ◌*◌, ℤ, ◌-ℤ◌, max, nat_abs, nat_lt, Bool, false, List, Option, Some, None}
use Rattle.fd_solving.specs.fd_exact.First.{first_place}
use Rattle.fd_solving.specs.fd_exact.Greatest.{greatest}
use Rattle.fd_solving.specs.fd_exact.States.{part}
use Rattle.fd_solving.specs.dss_layout.Layout.{LayoutView}
use Rattle.fd_solving.specs.fd_equations.Rounded.{list_of}
use Rattle.fd_solving.specs.fd_pattern.Views.{NetworkView, kind_of}
use Rattle.fd_solving.specs.fd_pattern.declared.layout.PlaceKind.{PlaceKind}
use Rattle.fd_solving.specs.fd_pattern.declared.layout.PlaceKind.TheVariants.{Node, Branch, Magnitude}
use Rattle.fd_solving.specs.fd_enclosure.Sound.{Claim, first_loose, inverse_in, mismatch_at, number_at, radii_of}
use Rattle.fd_solving.specs.fd_cert.Widening.{wide_place}
use Rattle.fd_solving.specs.fd_report.Names.{name_at}
use Rattle.fd_solving.specs.fd_report.declared.ladders.Ladder.{Ladder}
use Rattle.fd_solving.specs.fd_report.declared.ladders.Ladder.TheVariants as ladder
use Rattle.fd_sweep.specs.fd_rungs.declared.swept.Swept.{Swept}
use Rattle.fd_sweep.specs.fd_rungs.declared.swept.Swept.TheVariants.{Settled, NotConverged, OutOfRange}

-- how far apart both states are at a place
abbrev pub apart_at : List ℤ → List ℤ → ℕ → ℕ
apart_at x y place = nat_abs (part x place -ℤ part y place)

-- a current may be anywhere; a part of a voltage and a magnitude lie within the half-width of the box
abbrev pub is_outside_by : PlaceKind → ℕ → ℕ → Bool
is_outside_by Node half apart = nat_lt half apart
is_outside_by Branch half apart = false
is_outside_by Magnitude half apart = nat_lt half apart

-- the certified state's claim m, and the state x of the sweep, by place in whole microvolts and microamperes
module _ (v : NetworkView) (m : Claim) (x : List ℤ) where
  -- the greater of both states' mismatches of a row
  abbrev pub greater_at : ℕ → ℕ
  greater_at l = max (number_at m.mismatches l) (mismatch_at v x l)

  abbrev pub greater_mismatches : List ℕ
  greater_mismatches = list_of v.size greater_at

  -- the first place at which x lies outside the printed box
  abbrev pub first_outside : Option ℕ
  first_outside =
      first_place
      (λ place. is_outside_by (kind_of v place) (number_at m.boxes place) (apart_at x m.centre place)) v.size

  -- the greatest difference between both states, of all parts of voltages
  abbrev pub gap : ℕ
  gap = greatest (λ place. apart_at x m.centre place) (2 * v.nodes)

  -- the greatest radius that the greater mismatches give, of all parts of voltages
  abbrev pub radius : ℕ
  radius = greatest (λ place. number_at (radii_of v m.centre (inverse_in m.support) greater_mismatches) place) (2 * v.nodes)

  module _ (layout : LayoutView) (sweeps : ℕ) where
    abbrev pub by_width : Option ℕ → Ladder
    by_width (Some place) = ladder.Wide (name_at layout place)
    by_width None = ladder.Agrees sweeps gap radius

    abbrev pub by_box : Option ℕ → Ladder
    by_box (Some place) = ladder.Apart (name_at layout place)
    by_box None = by_width (wide_place v m greater_mismatches)

    abbrev pub by_mismatches : Option ℕ → Ladder
    by_mismatches (Some row) = ladder.Apart (name_at layout row)
    by_mismatches None = by_box first_outside

    -- a mismatch of x is above the greatest of a solution; or x is outside the box; or a bound reaches one; or both
    -- agree
    abbrev pub beside : Ladder
    beside = by_mismatches (first_loose v x)

-- what a sweep comes to beside the claim of a network with this layout
unfoldable pub ladder_of : LayoutView → NetworkView → Claim → Swept → Ladder
ladder_of layout v m (Settled x sweeps) = beside v m x layout sweeps
ladder_of layout v m (NotConverged sweeps) = ladder.NotConverged sweeps
ladder_of layout v m (OutOfRange place sweep) = ladder.OutOfRange (name_at layout place) sweep
