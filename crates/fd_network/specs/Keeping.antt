-- What a network keeps of the elements of a circuit for its updates.
use Rattle.std.specs.Prelude.{◌≡◌, ℕ, List, length, slice_get, Some, All}
use Rattle.std.specs.List.{Contains, flat_map}
use Rattle.fd_devices.specs.Reach.{device_places}
use Rattle.fd_devices.specs.Scripted.{devices_from}
use Rattle.fd_devices.specs.Settings.{Settings}
use Rattle.dss_ready.specs.dss_model.declared.element.Element.{Element}
use Rattle.dss_ready.specs.dss_model.declared.names.ElementName.{ElementName}
use Rattle.dss_ready.specs.dss_layout.Layout.{Elements, LayoutView}
use Rattle.fd_equations.specs.fd_exact.Sums.{list_n}
use Rattle.fd_devices.specs.declared.kept.Kept.{Kept}
use Rattle.fd_devices.specs.Kept.{IsKeptOf, most_constants, most_loads, most_terms}
use Rattle.fd_network.specs.declared.room.Room.{Room}

-- what is kept of each element in order
pub record AreKept (layout : LayoutView) (hertz : ℕ) (es : Elements) (ks : List Kept) : Type 0 where
  pub count : length ks ≡ length es
  pub each : (k : ℕ) (e : ElementName × Element) (x : Kept) → slice_get es k ≡ Some e → slice_get ks k ≡ Some x → IsKeptOf layout hertz k e.1 x

-- room for all that elements add, at any settings
abbrev pub room_for : Elements → Room
room_for es = record {
  elements = length es;
  terms = list_n (λ e. most_terms e.1) es;
  loads = list_n (λ e. most_loads e.1) es;
  constants = list_n (λ e. most_constants e.1) es;
}

-- the places of row and column that elements can reach, at any settings, are among these
abbrev pub Reaches : LayoutView → ℕ → Elements → List (ℕ × ℕ) → Type 0
Reaches layout hertz es ps = (s : Settings) → All (Contains ps) (flat_map device_places (devices_from layout hertz 0 es s))
