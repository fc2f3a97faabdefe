use Rattle.std.proofs.Common.{◌≡◌, drop}
use Rattle.dss_circuit.specs.dss_model.InRange.{ElementInRange}
use Rattle.dss_commands.specs.Commands.{with_pairs}
use Rattle.dss_commands.proofs.elements.set_pairs.Given as goal

abbrev pub invariant-loop-pair : goal.invariant-loop-pair
invariant-loop-pair l = record {
  set : with_pairs l.solves l.elements.entries l.class (drop l.pair-index l.pairs) l.draft
      ≡ with_pairs l.solves l.elements.entries l.class l.pairs l.initial.draft;
  in_range : ElementInRange l.draft;
}
