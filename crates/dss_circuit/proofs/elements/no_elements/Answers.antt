use Rattle.std.proofs.Common.{sym, subst}
use Rattle.dss_circuit.specs.WellFormed.{AreWellFormed}
use Rattle.dss_circuit.proofs.WellFormed.{none_well_formed}
use Rattle.dss_circuit.proofs.elements.no_elements.Goals as goal

pub returns-clause-well_formed : goal.returns-clause-well_formed
returns-clause-well_formed c = subst AreWellFormed (sym c.new.ensures.empty) none_well_formed
