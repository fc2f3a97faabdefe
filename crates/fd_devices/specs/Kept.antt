-- What is kept of elements, so that they can be taken at other settings without memory.
use Rattle.std.specs.Prelude.{◌≡◌, ℕ, ◌+◌, ◌*◌, ◌<◌, ◌≤◌, ◌^◌, Bool, true, false, length, List, map, All}
use Rattle.std.specs.List.{flat_map}
use Rattle.dss_layout.specs.fd_arith.declared.terms.Ends.{Ends}
use Rattle.fd_xfmr.specs.fd_system.Contributions.{IsSmall}
use Rattle.fd_xfmr.specs.fd_system.Stamps.{stamp_of}
use Rattle.fd_xfmr.specs.fd_system.System.{StampView}
use Rattle.fd_pattern.specs.PatternPlaces.{load_places, place_of}
use Rattle.dss_layout.specs.dss_model.declared.load.LoadKind.{LoadKind}
use Rattle.dss_layout.specs.dss_model.declared.load.LoadKind.TheVariants as kind
use Rattle.dss_layout.specs.dss_model.declared.element.Element.{Element}
use Rattle.dss_layout.specs.dss_model.declared.element.Element.TheVariants as the
use Rattle.dss_layout.specs.Layout.{LayoutView, ends_of}
use Rattle.fd_devices.specs.declared.kept.Kept.{Kept}
use Rattle.fd_devices.specs.Devices.{device_stamp}
use Rattle.fd_devices.specs.Reach.{bank_places, transformer_places}
use Rattle.fd_devices.specs.Scripted.{device_of}
use Rattle.fd_devices.specs.Settings.{Settings}
use Rattle.fd_devices.specs.Standing.{IsSettledAt}

-- ---- one element

-- the numbers of the nodes and branches that it reaches leave room for two parts
abbrev pub AreSmallEnds : Element → Ends → Type 0
AreSmallEnds (the.Transformer t) at = (All IsSmall at.first × All IsSmall at.second) × (at.branch + t.phases < 2 ^ 31)
AreSmallEnds (the.Capacitor c) at = All IsSmall at.first
AreSmallEnds e at = Unit {0}

-- how many part loads a phase has
abbrev pub parts_of : LoadKind → ℕ
parts_of kind.Zip = 3
parts_of other = 1

-- how many contributions, part loads and constants it has at most, at any settings
abbrev pub most_terms : Element → ℕ
most_terms (the.Vsource v) = 64 * (1 + v.phases)
most_terms (the.Line l) = 64 * (1 + l.phases)
most_terms (the.Transformer t) = 60
most_terms (the.Capacitor c) = 24
most_terms (the.Load l) = 16 * l.phases
most_terms e = 0

abbrev pub most_loads : Element → ℕ
most_loads (the.Load l) = parts_of l.model * l.phases
most_loads e = 0

abbrev pub most_constants : Element → ℕ
most_constants (the.Vsource v) = 6
most_constants e = 0

pub record AreFewOf (e : Element) (a : StampView) : Type 0 where
  pub terms : length a.terms ≤ most_terms e
  pub loads : length a.loads ≤ most_loads e
  pub constants : length a.constants ≤ most_constants e

-- it has settings
abbrev pub is_moved : Element → Bool
is_moved (the.Transformer t) = true
is_moved (the.Capacitor c) = true
is_moved (the.Load l) = true
is_moved e = false

-- where it stands, and what it adds if it has no settings
pub record IsKeptOf (layout : LayoutView) (hertz place : ℕ) (e : Element) (k : Kept) : Type 0 where
  pub at : k.at ≡ ends_of layout place e
  pub stamp : is_moved e ≡ false → (s : Settings) → stamp_of k.stamp ≡ device_stamp (device_of layout hertz place e s)
  pub settled : is_moved e ≡ false → (s : Settings) → IsSettledAt layout hertz place e s

-- the places that it can reach, at these ends and by what it adds at any settings
abbrev pub reach_of : Element → Ends → StampView → List (ℕ × ℕ)
reach_of (the.Transformer t) at a = transformer_places t.phases at
reach_of (the.Capacitor c) at a = bank_places at
reach_of (the.Load l) at a = flat_map load_places a.loads
reach_of e at a = map place_of a.terms
