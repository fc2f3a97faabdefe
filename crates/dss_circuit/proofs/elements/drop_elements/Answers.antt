use Rattle.std.proofs.Common.{rules, sym, subst}
use Rattle.indexmap.proofs.CallerLemmas.{filter-RetainsPairs}
use Rattle.dss_circuit.specs.InRange.{AllInRange}
use Rattle.dss_circuit.specs.WellFormed.{AreWellFormed}
use Rattle.dss_circuit.specs.Without.{is_of_other}
use Rattle.dss_circuit.proofs.Dropped.{in_range_left, well_formed_left}
use Rattle.dss_circuit.proofs.elements.drop_elements.Goals as goal

pub returns-clause-rest : goal.returns-clause-rest
returns-clause-rest c = filter-RetainsPairs _ (is_of_other c.args.dropped) _ (λ k v b w g call. search rules) _ _ c.retain.ensures.filtered

pub returns-clause-in_range : goal.returns-clause-in_range
returns-clause-in_range c =
    subst AllInRange (sym (returns-clause-rest c))
    (in_range_left c.args.dropped c.args.elements.now.entries c.requires.in_range)

pub returns-clause-well_formed : goal.returns-clause-well_formed
returns-clause-well_formed c =
    subst AreWellFormed (sym (returns-clause-rest c))
    (well_formed_left c.args.dropped c.requires.source c.args.elements.now.entries c.requires.named c.requires.well_formed)
