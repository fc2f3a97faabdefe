use Rattle.std.proofs.Common.{◌≡◌, ◌*◌, ◌≤◌, length, vec_capacity, take}
use Rattle.std.specs.List.{flat_map}
use Rattle.fd_xfmr.specs.fd_system.Loads.{linear_list}
use Rattle.fd_devices.proofs.phase_loads.linear_terms_into.Given as goal

abbrev pub invariant-loop-phase : goal.invariant-loop-phase
invariant-loop-phase l = record {
  terms : l.into.items ≡ flat_map linear_list (take l.phase-index l.phases);
  few : length l.into.items ≤ 16 * l.phase-index;
  capacity : vec_capacity l.into ≡ vec_capacity l.initial.into;
}
