use Rattle.std.proofs.Common.{◌≡◌, ◌≤◌, length, take, vec_capacity}
use Rattle.std.specs.List.{All, flat_map}
use Rattle.dss_ready.specs.dss_layout.Layout.{size_of}
use Rattle.fd_equations.specs.fd_pattern.Patterns.{IsInside}
use Rattle.fd_devices.specs.Building.{DeviceFits}
use Rattle.fd_devices.specs.Reach.{device_places}
use Rattle.fd_devices.specs.Scripted.{devices_from}
use Rattle.fd_devices.specs.Settings.{settings_in}
use Rattle.fd_network.proofs.Taking.{IsAt}
use Rattle.fd_network.proofs.Walking.{AreKeptTo}
use Rattle.fd_network.proofs.keeping.keep.Given as goal

abbrev pub invariant-loop-place : goal.invariant-loop-place
invariant-loop-place l = record {
  at : IsAt l.layout l.hertz l.elements.entries (devices_from l.layout l.hertz 0 l.elements.entries (settings_in l.settings)) l.place (settings_in l.left);
  kept : AreKeptTo l.layout l.hertz l.elements.entries l.place l.kept.items;
  capacity : length l.elements.entries ≤ vec_capacity l.kept;
  fits : All DeviceFits (take l.place (devices_from l.layout l.hertz 0 l.elements.entries (settings_in l.settings)));
  places : l.places.items ≡ flat_map device_places (take l.place (devices_from l.layout l.hertz 0 l.elements.entries (settings_in l.settings)));
  inside : All (IsInside (size_of l.layout)) l.places.items;
}
