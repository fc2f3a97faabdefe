use Rattle.fd_outside.specs.Answers.{AgreesSince, IsLater, names_asked}
use Rattle.fd_outside.specs.Files.{Files}
use Rattle.dss_script.proofs.Filling.{Done}
use Rattle.dss_script.proofs.shapes.fill_pairs.Given as goal

abbrev pub invariant-loop-pair : goal.invariant-loop-pair
invariant-loop-pair g l = record {
  later : IsLater g.L.Library.answers g.L.Library.holds l.fn.lib l.lib;
  done : (files : Files) → AgreesSince files (g.L.Library.answers l.fn.lib) (g.L.Library.answers l.lib)
      → Done files l.folder l.fn.pairs l.filled.items l.pair-iterator.rest.items
      (names_asked (g.L.Library.answers l.fn.lib)) (names_asked (g.L.Library.answers l.lib));
}
