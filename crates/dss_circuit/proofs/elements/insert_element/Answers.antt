use Rattle.std.proofs.Common.{◌∙◌, ap, Bool, sym, subst}
use Rattle.std.proofs.lemmas.List.Elements.{All-same}
use Rattle.indexmap.specs.IndexMap.{insert_entry}
use Rattle.dss_model.specs.declared.names.ElementName.{ElementName}
use Rattle.dss_model.specs.InRange.{ElementInRange}
use Rattle.dss_model.specs.SameElement.{same_element}
use Rattle.dss_model.proofs.CallerLemmas.{compares}
use Rattle.dss_circuit.specs.WellFormed.{AreWellFormed}
use Rattle.dss_circuit.proofs.Entries.{OfValue, of_inserted}
use Rattle.dss_circuit.proofs.WellFormed.{well_formed_kept}
use Rattle.dss_circuit.proofs.elements.insert_element.Goals as goal

pub returns-clause-inserted : goal.returns-clause-inserted
returns-clause-inserted c =
    c.in_ok-insert.ensures.entries
    ∙ ap (λ (same : ElementName → ElementName → Bool).
    insert_entry same c.args.elements.now.entries c.args.name c.args.element)
    compares

pub returns-clause-in_range : goal.returns-clause-in_range
returns-clause-in_range c =
    All-same (OfValue ElementInRange) _ _ (returns-clause-inserted c) (of_inserted ElementInRange same_element
    c.args.elements.now.entries c.args.name c.args.element c.requires.in_range c.requires.element_in_range)

pub returns-clause-well_formed : goal.returns-clause-well_formed
returns-clause-well_formed c =
    subst AreWellFormed (sym (returns-clause-inserted c))
    (well_formed_kept c.args.name c.args.element c.args.elements.now.entries c.requires.key c.requires.class c.requires.source
    c.requires.named c.requires.well_formed)
