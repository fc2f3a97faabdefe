use Rattle.std.proofs.Common.{take, All}
use Rattle.fd_devices.specs.Building.{HasSmallSums}
use Rattle.fd_devices.specs.fd_system.Stamps.{IsRoomSame}
use Rattle.fd_devices.specs.Scripted.{devices_from}
use Rattle.fd_devices.specs.Settings.{settings_in}
use Rattle.fd_network.proofs.Taking.{IsAt}
use Rattle.fd_network.proofs.stamps.check_sums.Given as goal

abbrev pub invariant-loop-place : goal.invariant-loop-place
invariant-loop-place l = record {
  at : IsAt l.layout l.hertz l.elements.entries (devices_from l.layout l.hertz 0 l.elements.entries (settings_in l.settings)) l.place (settings_in l.left);
  small : All (HasSmallSums l.rows.terms) (take l.place (devices_from l.layout l.hertz 0 l.elements.entries (settings_in l.settings)));
  one : IsRoomSame l.initial.one l.one;
}
