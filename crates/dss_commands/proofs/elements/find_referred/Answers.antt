use Rattle.std.proofs.Common.{IfSome, sym, subst}
use Rattle.dss_circuit.specs.dss_model.InRange.{ElementInRange}
use Rattle.dss_circuit.proofs.CallerLemmas.{of_found}
use Rattle.dss_commands.proofs.elements.find_referred.Goals as goal

pub returns-in-Some-clause-in_range : goal.returns-in-Some-clause-in_range
returns-in-Some-clause-in_range c =
    subst (λ found. IfSome found ElementInRange) (sym c.find_element.ensures)
    (of_found ElementInRange _ c.args.elements.now.entries c.requires.in_range)
