-- An element where a layout has it, and when its device is settled there.
use Rattle.std.specs.Prelude.{IsTrue, ℕ, ◌<◌, ◌≤◌, ◌^◌, List, length}
use Rattle.dss_layout.specs.dss_model.LoadKinds.{has_magnitude}
use Rattle.dss_layout.specs.fd_arith.declared.terms.Ends.{Ends}
use Rattle.dss_layout.specs.fd_arith.declared.terms.NodeAt.{NodeAt}
use Rattle.fd_xfmr.specs.fd_system.Terminals.{node_count}
use Rattle.dss_layout.specs.dss_model.declared.element.Element.{Element}
use Rattle.dss_layout.specs.dss_model.declared.load.Load.{Load}
use Rattle.dss_layout.specs.dss_model.InRange.{ElementInRange}
use Rattle.dss_layout.specs.Limits.{most_complex}
use Rattle.dss_layout.specs.Layout.{LayoutView, branch_phases, complex_count, ends_of, first_magnitude, size_of}
use Rattle.fd_devices.specs.Building.{IsSettled}
use Rattle.fd_devices.specs.Devices.{Device}
use Rattle.fd_devices.specs.Scripted.{device_of}
use Rattle.fd_devices.specs.Settings.{Settings}
use Rattle.fd_devices.specs.Sound.{HasBranches, HasMagnitudes, IsSideOf, IsSited, IsSound}

-- ---- in a layout

-- at this place the layout of few unknowns knows the element's magnitudes
pub record KnowsMagnitudes (layout : LayoutView) (place : ℕ) : Type 0 where
  pub known : place < length layout.magnitudes_before
  pub few : complex_count layout ≤ most_complex
  pub first : first_magnitude layout place < 2 ^ 31

-- it knows its branches too
pub record HasPlace (layout : LayoutView) (place : ℕ) : Type 0 where
  pub branches : place < length layout.branches_before
  pub magnitudes : KnowsMagnitudes layout place

-- its values are in range and sound, and its nodes, branches and magnitudes are among the unknowns of the layout
pub record IsReadyAt (layout : LayoutView) (place : ℕ) (e : Element) : Type 0 where
  pub in_range : ElementInRange e
  pub sound : IsSound e
  pub sited : IsSited (length layout.nodes) (complex_count layout) (size_of layout) (first_magnitude layout place) (ends_of layout place e) e

-- ---- settled

-- at its place in a layout, with these settings
abbrev pub IsSettledAt : LayoutView → ℕ → ℕ → Element → Settings → Type 0
IsSettledAt layout hertz place e s =
    IsSettled (length layout.nodes) (complex_count layout) (size_of layout) (branch_phases e)
    (device_of layout hertz place e s)

-- among any unknowns, of which its first side and its branches are
abbrev pub SettlesBehind : ℕ → Ends → Device → Type 0
SettlesBehind phases at d = (m n size : ℕ) → IsSideOf n phases at.first → HasBranches n phases at → IsSettled m n size phases d

-- of which its sides, of so many nodes, and its branches are
abbrev pub SettlesBetween : ℕ → ℕ → Ends → Device → Type 0
SettlesBetween count phases at d =
    (m n size : ℕ) → IsSideOf n count at.first → IsSideOf n count at.second → HasBranches n phases at
    → IsSettled m n size phases d

-- of which its nodes are, so many, without branches
abbrev pub SettlesOn : ℕ → List NodeAt → Device → Type 0
SettlesOn count nodes d = (m n size : ℕ) → IsSideOf n count nodes → IsSettled m n size 0 d

-- of which the nodes of a load come first, and the magnitudes of one with a part of constant current last
abbrev pub SettlesAsLoad : Load → List NodeAt → ℕ → Device → Type 0
SettlesAsLoad load nodes magnitude d =
    (m n size : ℕ) → m ≤ n → IsSideOf m (node_count load.phases) nodes
    → (IsTrue (has_magnitude load.model) → HasMagnitudes n size load.phases magnitude) → IsSettled m n size 0 d
