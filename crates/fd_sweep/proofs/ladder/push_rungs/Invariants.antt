use Rattle.std.proofs.Common.{◌≡◌, ◌+◌, ◌++◌, drop, length, map}
use Rattle.std.specs.List.{All}
use Rattle.fd_network.specs.dss_layout.Layout.{layout_of}
use Rattle.fd_series.specs.fd_rungs.Bounds.{IsRung, branches_in}
use Rattle.fd_sweep.specs.Ladders.{rungs_from}
use Rattle.fd_sweep.proofs.ladder.push_rungs.Given as goal

abbrev pub invariant-loop-number : goal.invariant-loop-number
invariant-loop-number l = record {
  value : map branches_in l.rungs.items
      ++ rungs_from (layout_of l.circuit.elements) l.circuit.options.defaultbasefrequency l.circuit.elements l.taps l.reached (drop l.number-index l.order)
      ≡ map branches_in l.initial.rungs.items
      ++ rungs_from (layout_of l.circuit.elements) l.circuit.options.defaultbasefrequency l.circuit.elements l.taps l.initial.reached l.order;
  small : All IsRung l.rungs.items;
  few : length l.rungs.items ≡ length l.initial.rungs.items + l.number-index;
}
