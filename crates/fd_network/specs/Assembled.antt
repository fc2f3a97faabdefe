-- The network of what elements in a layout add, and the lists in which it is made.
use Rattle.std.specs.Prelude.{◌≡◌, ◌≤◌, vec_capacity}
use Rattle.dss_ready.specs.dss_layout.Layout.{LayoutView}
use Rattle.fd_devices.specs.fd_system.Stamps.{HasRoom}
use Rattle.fd_equations.specs.Holding.{CanHold}
use Rattle.fd_devices.specs.fd_system.System.{stamp_with}
use Rattle.fd_equations.specs.fd_pattern.Views.{NetworkView, network_of}
use Rattle.fd_devices.specs.Scripted.{layout_counts}
use Rattle.fd_network.specs.declared.assembly.Lists.{Lists}
use Rattle.fd_network.specs.declared.assembly.Parts.{Parts}
use Rattle.fd_network.specs.declared.extents.Stamps.{Stamps}
use Rattle.fd_network.specs.declared.room.Room.{Room}
use Rattle.fd_network.specs.Stamps.{HaveStampsRoom}

abbrev pub parts_network : LayoutView → Parts → NetworkView
parts_network layout p =
    network_of (layout_counts layout) (stamp_with p.constants.items p.rows.terms p.rows.loads p.draw)

-- the parts have room for so much
pub record HavePartsRoom (r : Room) (p : Parts) : Type 0 where
  pub terms : r.terms ≤ p.rows.term_room
  pub loads : r.loads ≤ p.rows.load_room
  pub constants : r.constants ≤ vec_capacity p.constants
  pub extents : r.elements ≤ vec_capacity p.extents

-- the lists for all elements have room for so much, and those for one have its room
pub record HaveListsRoom (r : Room) (l : Lists) : Type 0 where
  pub stamps : HaveStampsRoom r l.stamps
  pub one : HasRoom l.one 256 9 6

-- both have room
pub record HaveRoom (r : Room) (p : Parts) (l : Lists) : Type 0 where
  pub parts : HavePartsRoom r p
  pub lists : HaveListsRoom r l

-- the rows can hold what stamps have
abbrev pub CanTake : Parts → Stamps → Type 0
CanTake p q = CanHold p.rows q.all.terms.items q.all.loads.items

-- each has what the other had
pub record AreExchanged (p : Parts) (q : Stamps) (p2 : Parts) (q2 : Stamps) : Type 0 where
  pub size : p2.rows.size ≡ p.rows.size
  pub places : p2.rows.places ≡ p.rows.places
  pub terms : p2.rows.terms ≡ q.all.terms.items
  pub loads : p2.rows.loads ≡ q.all.loads.items
  pub constants : p2.constants ≡ q.all.constants
  pub draw : p2.draw ≡ q.all.draw
  pub extents : p2.extents ≡ q.extents
  pub term_room : p2.rows.term_room ≡ vec_capacity q.all.terms
  pub load_room : p2.rows.load_room ≡ vec_capacity q.all.loads
  pub old_terms : q2.all.terms.items ≡ p.rows.terms
  pub old_loads : q2.all.loads.items ≡ p.rows.loads
  pub old_constants : q2.all.constants ≡ p.constants
  pub old_draw : q2.all.draw ≡ p.draw
  pub old_extents : q2.extents ≡ p.extents
  pub old_term_room : vec_capacity q2.all.terms ≡ p.rows.term_room
  pub old_load_room : vec_capacity q2.all.loads ≡ p.rows.load_room
  pub back : CanTake p2 q2

-- the parts are what they were
pub record IsAsBefore (p p2 : Parts) : Type 0 where
  pub rows : p2.rows ≡ p.rows
  pub constants : p2.constants ≡ p.constants
  pub draw : p2.draw ≡ p.draw
  pub extents : p2.extents ≡ p.extents
