-- What the code knows of a certified state and of a sweep's.
use Rattle.std.specs.Prelude.{◌≡◌, ℕ, ◌*◌, ◌<◌, ◌≤◌, ℤ, List, length, Option, Some, None, Result, Ok, Err}
use Rattle.std.specs.Global.{Vec}
use Rattle.fd_solving.specs.dss_layout.Layout.{LayoutView, size_of}
use Rattle.fd_solving.specs.fd_cert.Widening.{AreMismatches, IsOfPoint}
use Rattle.fd_solving.specs.fd_cert.declared.widening.Widened.{Widened}
use Rattle.fd_solving.specs.fd_cert.declared.widening.Widened.TheVariants.{Made, Wide}
use Rattle.fd_solving.specs.fd_enclosure.Sound.{Claim, first_loose, greatest_mismatch, mismatches_of, number_at}
use Rattle.fd_solving.specs.fd_pattern.Conditions.{IsPoint}
use Rattle.fd_solving.specs.fd_pattern.Views.{NetworkView}
use Rattle.fd_sweep.specs.fd_rungs.declared.swept.Swept.{Swept}
use Rattle.fd_sweep.specs.fd_rungs.declared.swept.Swept.TheVariants.{Settled, NotConverged, OutOfRange}

-- a point of the network, with an inverse, boxes and mismatches of its size
pub record IsClaimed (v : NetworkView) (m : Claim) : Type 0 where
  pub point : IsOfPoint v m
  pub boxes_long : length m.boxes ≡ v.size
  pub mismatches_long : length m.mismatches ≡ v.size
  pub mismatches_most : (l : ℕ) → l < v.size → number_at m.mismatches l ≤ greatest_mismatch

-- the unknowns of the network stand in this layout
pub record IsLayoutOf (layout : LayoutView) (v : NetworkView) : Type 0 where
  pub size : size_of layout ≡ v.size
  pub nodes : length layout.nodes ≡ v.nodes
  pub few : 2 * v.nodes ≤ v.size

-- the mismatches of a state, none above the greatest of a solution; or the first row with one that is
pub record IsTight (v : NetworkView) (x : List ℤ) (e : List ℕ) : Type 0 where
  pub none : first_loose v x ≡ None
  pub own : e ≡ mismatches_of v x
  pub mismatches : AreMismatches v e

abbrev pub IsTightOrLoose : NetworkView → List ℤ → Result (Vec ℕ) ℕ → Type 0
IsTightOrLoose v x (Ok e) = IsTight v x e.items
IsTightOrLoose v x (Err row) = (first_loose v x ≡ Some row) × (row < v.size)

-- a state that the sweeps settle at is a point of the network
abbrev pub IsPointIfSettled : NetworkView → Swept → Type 0
IsPointIfSettled v (Settled x sweeps) = IsPoint v x
IsPointIfSettled v (NotConverged sweeps) = Unit {0}
IsPointIfSettled v (OutOfRange place sweep) = Unit {0}

-- the place at which a certified state is too wide is one of n
abbrev pub IsWideInside : ℕ → Widened → Type 0
IsWideInside n (Made m) = Unit {0}
IsWideInside n (Wide place) = place < n
