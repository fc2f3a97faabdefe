use Rattle.std.proofs.Common.{◌≡◌, take}
use Rattle.std.specs.List.{filter_map}
use Rattle.fd_sample.specs.Circuits.{probe_in}
use Rattle.fd_sample.proofs.all.probes.Given as goal

abbrev pub invariant-loop-place : goal.invariant-loop-place
invariant-loop-place l = record {
  made : l.probes.items ≡ filter_map (λ e. probe_in l.circuit.elements e.1) (take l.place l.circuit.elements);
}
