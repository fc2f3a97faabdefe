-- What contracts see of the network of a circuit.
use Rattle.std.specs.Prelude.{◌≡◌, ℕ, List, map}
use Rattle.dss_ready.specs.dss_layout.Layout.{LayoutView, layout_of, size_of}
use Rattle.dss_ready.specs.dss_circuit.Circuit.{CircuitView}
use Rattle.fd_equations.specs.fd_pattern.declared.layout.Layout.{Layout}
use Rattle.fd_equations.specs.fd_pattern.Conditions.{IsNetwork}
use Rattle.fd_devices.specs.fd_system.System.{StampView, stamp_with, joined}
use Rattle.fd_equations.specs.fd_pattern.Views.{NetworkView, network_of}
use Rattle.fd_devices.specs.declared.kept.Kept.{Kept}
use Rattle.fd_devices.specs.Devices.{device_stamp}
use Rattle.fd_devices.specs.Scripted.{devices_of, layout_counts}
use Rattle.fd_devices.specs.Settings.{AreSettings, Settings}
use Rattle.fd_network.specs.declared.assembly.Parts.{Parts}
use Rattle.fd_network.specs.declared.room.Room.{Room}
use Rattle.fd_network.specs.Keeping.{AreKept, Reaches, room_for}
use Rattle.fd_network.specs.Stamps.{parted}

-- where its unknowns stand, what each element adds, the settings at which it does, the rows of all that, what is kept of each element,
-- the places of row and column at which something can stand, and how much its lists have room for
pub record BuiltView : Type 0 where
  pub layout : LayoutView
  pub stamps : List StampView
  pub settings : Settings
  pub rows : NetworkView
  pub kept : List Kept
  pub places : List (ℕ × ℕ)
  pub room : Room

abbrev pub built_of : LayoutView → Layout → Parts → Settings → List Kept → Room → BuiltView
built_of layout counts parts settings kept room = record {
  layout = layout;
  stamps = parted parts.extents.items parts.constants.items parts.rows.terms parts.rows.loads;
  settings = settings;
  rows = network_of counts (stamp_with parts.constants.items parts.rows.terms parts.rows.loads parts.draw);
  kept = kept;
  places = parts.rows.places;
  room = room;
}

-- it was built of a circuit at its settings, and can be updated to any
pub record IsBuiltOf (v : BuiltView) (c : CircuitView) : Type 0 where
  pub layout : v.layout ≡ layout_of c.elements
  pub settings : AreSettings c.elements v.settings
  pub stamps : v.stamps ≡ map device_stamp (devices_of c v.settings)
  pub kept : AreKept (layout_of c.elements) c.options.defaultbasefrequency c.elements v.kept
  pub reach : Reaches (layout_of c.elements) c.options.defaultbasefrequency c.elements v.places
  pub room : v.room ≡ room_for c.elements

-- its rows are those of its stamps, and of a network with these unknowns
pub record IsBuilt (v : BuiltView) : Type 0 where
  pub rows : v.rows ≡ network_of (layout_counts v.layout) (joined v.stamps)
  pub network : IsNetwork v.rows
  pub size : v.rows.size ≡ size_of v.layout
