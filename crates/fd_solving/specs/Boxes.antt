-- The trust box of a printed state, by the circuit's unknowns and the state alone.
use Rattle.std.specs.Prelude.{◌≢◌, ℕ, ◌*◌, ◌<◌, ◌≤◌, ◌^◌, max, ℤ, nat_abs, List, length}
use Rattle.dss_commands.specs.fd_exact.Rounding.{ceil_nat}
use Rattle.dss_commands.specs.fd_exact.States.{State, away, part}
use Rattle.fd_pages.specs.dss_layout.Layout.{LayoutView, complex_count, size_of}
use Rattle.fd_daily.specs.fd_pattern.declared.layout.PlaceKind.{PlaceKind}
use Rattle.fd_daily.specs.fd_pattern.declared.layout.PlaceKind.TheVariants.{Node, Branch, Magnitude}
use Rattle.fd_daily.specs.fd_pattern.Views.{kind_in}
use Rattle.fd_daily.specs.fd_equations.Weights.{size_of_both}

-- what stands at a place: both parts of each node's voltage, then those of each branch's current, then magnitudes
abbrev pub kind_at : LayoutView → ℕ → PlaceKind
kind_at layout place = kind_in (2 * length layout.nodes) (2 * complex_count layout) place

-- The half-width of the box of so many parts in whole microvolts, rounded up: for both parts of a voltage one such part
-- of the sum of their sizes, for a magnitude of its size, each counted as one volt at least. A current has none.
abbrev pub box_by : ℕ → PlaceKind → List ℤ → ℕ → ℕ
box_by parts Node centre place = ceil_nat (max (10 ^ 6) (size_of_both centre place)) parts
box_by parts Branch centre place = 0
box_by parts Magnitude centre place = ceil_nat (max (10 ^ 6) (nat_abs (part centre place))) parts

abbrev pub box_at : ℕ → LayoutView → List ℤ → ℕ → ℕ
box_at parts layout centre place = box_by parts (kind_at layout place) centre place

-- a state of any denominator lies in the box: each part of a voltage and each magnitude is within its half-width of the
-- centre, and currents are free
abbrev pub IsInBox : ℕ → LayoutView → List ℤ → State → Type 0
IsInBox parts layout centre x =
    (place : ℕ) → place < size_of layout → kind_at layout place ≢ Branch
    → nat_abs (away centre x place) ≤ x.over * box_at parts layout centre place
