use Rattle.dss_circuit.proofs.Copied.{copied_more}
use Rattle.dss_circuit.proofs.elements.copied_elements.Goals as goal

pub loop-name-preserved : goal.loop-name-preserved
loop-name-preserved c =
    copied_more c.loop-name.copy.entries c.add_copy.new.into.entries c.next.new.self c.loop-name.name-iterator
    c.args.elements.now.entries c.in-Some.name.now c.in-Some.element.now c.requires.distinct c.loop-name.invariant
    c.in-Some.ensures.steps c.in_ok-add_copy.ensures
