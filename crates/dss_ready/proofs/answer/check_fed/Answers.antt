use Rattle.std.proofs.Common.{subst}
use Rattle.dss_ready.specs.Feeding.{FirstIsolated}
use Rattle.dss_circuit.specs.Circuit.{Elements}
use Rattle.dss_ready.proofs.Answering.{isolated_blame}
use Rattle.dss_ready.proofs.answer.check_fed.Goals as goal

pub returns-in_ok-blame-in-Some : goal.returns-in_ok-blame-in-Some
returns-in_ok-blame-in-Some c =
    isolated_blame c.args.circuit.now c.args.layout.now c.in_ok-place.field-0 c.in-Some.place
    c.in_ok-blame-in-Some.blame c.requires.no_own c.requires.layout c.in-Some.is
    (subst (λ (es : Elements). FirstIsolated es c.in_ok-place.field-0) c.elements.ensures.entries
    c.in_ok-place.ensures)
    c.in_ok-blame-in-Some.ensures
