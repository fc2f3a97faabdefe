use Rattle.std.proofs.Common.{◌≡◌, ◌*◌, ◌≤◌, vec_capacity, length, All}
use Rattle.fd_xfmr.specs.fd_system.Contributions.{concat_below}
use Rattle.fd_devices.specs.Scripted.{phase_loads}
use Rattle.fd_devices.specs.Building.{IsUsable}
use Rattle.fd_devices.proofs.phase_loads.load_phases_into.Given as goal

abbrev pub invariant-loop-k : goal.invariant-loop-k
invariant-loop-k l = record {
  phases : l.into.items ≡ concat_below (phase_loads l.load l.nodes l.magnitude l.powers) l.k;
  usable : All IsUsable l.into.items;
  few : length l.into.items ≤ 3 * l.k;
  capacity : vec_capacity l.into ≡ vec_capacity l.initial.into;
}
