-- The stamps of elements one after another, in one list of each kind, with how much of it each has.
use Rattle.std.specs.Prelude.{◌≡◌, ◌≤◌, List, [], ◌∷◌, length, take, drop, map, vec_capacity}
use Rattle.dss_ready.specs.fd_arith.declared.terms.Term.{Term}
use Rattle.fd_devices.specs.fd_system.declared.constants.Constant.{Constant}
use Rattle.fd_devices.specs.fd_system.declared.loads.LoadAt.{LoadAt}
use Rattle.fd_devices.specs.fd_system.Stamps.{HasRoom, IsRoomSame}
use Rattle.fd_devices.specs.fd_system.System.{StampView}
use Rattle.fd_devices.specs.Devices.{Device, device_stamp}
use Rattle.fd_network.specs.declared.extents.Extent.{Extent}
use Rattle.fd_network.specs.declared.extents.Stamps.{Stamps}
use Rattle.fd_network.specs.declared.room.Room.{Room}

-- how much a stamp has of each list, and what it draws
abbrev pub extent_of : StampView → Extent
extent_of s = record { constants = length s.constants; terms = length s.terms; loads = length s.loads; draw = s.draw }

-- the same of the stamps of devices
abbrev pub extents_of : List Device → List Extent
extents_of ds = map extent_of (map device_stamp ds)

-- the stamps that stand one after another in these lists
abbrev pub parted : List Extent → List Constant → List Term → List LoadAt → List StampView
parted [] cs ts us = []
parted (e ∷ es) cs ts us =
    record { constants = take e.constants cs; terms = take e.terms ts; loads = take e.loads us; draw = e.draw }
    ∷ parted es (drop e.constants cs) (drop e.terms ts) (drop e.loads us)

-- there is room for so much
pub record HaveStampsRoom (r : Room) (s : Stamps) : Type 0 where
  pub all : HasRoom s.all r.terms r.loads r.constants
  pub extents : r.elements ≤ vec_capacity s.extents

-- the lists have the room that they had
pub record IsStampsRoomSame (old new : Stamps) : Type 0 where
  pub all : IsRoomSame old.all new.all
  pub extents : vec_capacity new.extents ≡ vec_capacity old.extents
