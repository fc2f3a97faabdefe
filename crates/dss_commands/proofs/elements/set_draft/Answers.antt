use Rattle.std.proofs.Common.{OnOk, sym, subst}
use Rattle.dss_circuit.specs.WellFormed.{NamesAreThere}
use Rattle.dss_commands.proofs.Pairs.{kept_class, kept_names}
use Rattle.dss_commands.proofs.elements.set_draft.Goals as goal

pub returns-clause-class : goal.returns-clause-class
returns-clause-class c = kept_class _ _ _ _ _ _ _ c.requires.class c.set_pairs.ensures.set

pub returns-clause-named : goal.returns-clause-named
returns-clause-named c =
    let before = subst (λ es. NamesAreThere es c.args.draft.now) (sym c.elements.ensures.entries) c.requires.named in
    subst (λ es. OnOk c.set_pairs.result (NamesAreThere es c.set_pairs.new.draft)) c.elements.ensures.entries
    (kept_names _ _ _ _ _ _ _ c.requires.class c.set_pairs.ensures.set before)
