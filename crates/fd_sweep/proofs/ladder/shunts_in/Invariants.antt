use Rattle.std.proofs.Common.{◌≡◌, ◌*◌, ◌≤◌, ◌++◌, drop, length}
use Rattle.std.specs.List.{All}
use Rattle.fd_network.specs.dss_layout.Layout.{layout_of}
use Rattle.fd_series.specs.fd_rungs.Branches.{IsShunt}
use Rattle.fd_sweep.specs.Ladders.{shunts_from}
use Rattle.fd_sweep.proofs.ladder.shunts_in.Given as goal

-- the shunts so far, and those of the elements that are left, are those of all
abbrev pub invariant-loop-place : goal.invariant-loop-place
invariant-loop-place l = record {
  value : l.shunts.items
      ++ shunts_from (layout_of l.circuit.elements) l.circuit.options.defaultbasefrequency l.place (drop l.place l.circuit.elements) l.left
      ≡ shunts_from (layout_of l.circuit.elements) l.circuit.options.defaultbasefrequency 0 l.circuit.elements l.closed;
  small : All IsShunt l.shunts.items;
  few : length l.shunts.items ≤ 18 * l.place;
}
