use Rattle.std.proofs.Common.{◌≡◌, ◌≤◌, ap, length, sym, subst, arith}
use Rattle.fd_sample.specs.Circuits.{AreProbes, probes_of}
use Rattle.fd_sample.proofs.Kept.{are_probes, probes_end, probes_next}
use Rattle.fd_sample.proofs.all.probes.Goals as goal

pub loop-place-preserved : goal.loop-place-preserved
loop-place-preserved c = record {
  made = probes_next c.args.circuit.now.elements c.loop-place.place c.in_ok-probe.probe c.loop-place.probes.items _ c.loop-place.invariant.made
      c.in_ok-probe.ensures.probe c.in_ok-add.ensures;
}

pub returns-clause-probes : goal.returns-clause-probes
returns-clause-probes c =
    let es = c.args.circuit.now.elements in
    let entries = ap length c.elements-elements.ensures.entries in
    let count : length es ≤ c.loop-place.place = omega (arith, c.loop-place-test.false, c.len-place-end.ensures.len, entries) in
    probes_end es c.loop-place.place c.loop-place.probes.items c.loop-place.invariant.made count

pub returns-clause-fit : goal.returns-clause-fit
returns-clause-fit c =
    let es = c.args.circuit.now.elements in
    let elements = c.elements-elements.ensures in
    let all : c.loop-place.probes.items ≡ probes_of es = returns-clause-probes c in
    subst (AreProbes es) (sym all) (are_probes c.args.circuit.now c.requires.ready elements.in_range elements.keys)
