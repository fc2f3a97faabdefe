use Rattle.std.proofs.Common.{◌≡◌, IfSome, drop, length, take}
use Rattle.dss_ready.specs.dss_layout.Layout.{complex_count, size_of}
use Rattle.fd_devices.specs.Building.{AreCollected}
use Rattle.fd_devices.specs.fd_system.Stamps.{IsRoomSame, stamp_of}
use Rattle.fd_devices.specs.Scripted.{devices_from}
use Rattle.fd_devices.specs.Settings.{settings_in}
use Rattle.fd_network.specs.Former.{AreFormerFrom, formers_in}
use Rattle.fd_network.specs.Stamps.{IsStampsRoomSame, extents_of}
use Rattle.fd_network.proofs.Filling.{IsFewFor}
use Rattle.fd_network.proofs.Taking.{IsAt}
use Rattle.fd_network.proofs.stamps.collect.Given as goal

abbrev pub invariant-loop-place : goal.invariant-loop-place
invariant-loop-place l = record {
  at : IsAt l.layout l.hertz l.elements.entries (devices_from l.layout l.hertz 0 l.elements.entries (settings_in l.settings)) l.place (settings_in l.left);
  made : AreCollected (length l.layout.nodes) (complex_count l.layout) (size_of l.layout)
      (take l.place l.elements.entries)
      (take l.place (devices_from l.layout l.hertz 0 l.elements.entries (settings_in l.settings)))
      (stamp_of l.stamps.all);
  extents : l.stamps.extents.items ≡ extents_of (take l.place (devices_from l.layout l.hertz 0 l.elements.entries (settings_in l.settings)));
  former : IfSome (formers_in l.before) (AreFormerFrom l.layout l.hertz l.place (drop l.place l.elements.entries));
  few : IsFewFor l.elements.entries l.place (stamp_of l.stamps.all);
  room : IsStampsRoomSame l.initial.stamps l.stamps;
  one : IsRoomSame l.initial.one l.one;
}
