use Rattle.std.proofs.Common.{◌≡◌, ◌*◌, ◌≤◌, ◌^◌, take}
use Rattle.dss_layout.specs.fd_exact.Sums.{list_n}
use Rattle.fd_xfmr.specs.fd_system.Loads.{draw_of}
use Rattle.fd_devices.proofs.phase_loads.total_draw.Given as goal

abbrev pub invariant-loop-phase : goal.invariant-loop-phase
invariant-loop-phase l = record {
  value : l.total ≡ list_n draw_of (take l.phase-index l.phases);
  most : l.total ≤ 2 ^ 100 * l.phase-index;
}
