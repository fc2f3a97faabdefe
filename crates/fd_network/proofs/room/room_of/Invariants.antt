use Rattle.std.proofs.Common.{◌≡◌, ◌*◌, ◌≤◌, length, take}
use Rattle.fd_equations.specs.fd_exact.Sums.{list_n}
use Rattle.fd_devices.specs.Kept.{most_constants, most_loads, most_terms}
use Rattle.fd_network.proofs.room.room_of.Given as goal

abbrev pub invariant-loop-place : goal.invariant-loop-place
invariant-loop-place l = record {
  elements : l.room.elements ≡ length l.elements.entries;
  terms : l.room.terms ≡ list_n (λ e. most_terms e.1) (take l.place l.elements.entries);
  loads : l.room.loads ≡ list_n (λ e. most_loads e.1) (take l.place l.elements.entries);
  constants : l.room.constants ≡ list_n (λ e. most_constants e.1) (take l.place l.elements.entries);
  few_terms : l.room.terms ≤ 256 * l.place;
  few_loads : l.room.loads ≤ 9 * l.place;
  few_constants : l.room.constants ≤ 6 * l.place;
}
