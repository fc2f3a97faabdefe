use Rattle.std.proofs.Common.{Bool, sym, subst}
use Rattle.fd_regctl.specs.fd_arith.declared.terms.TapPair.{TapPair}
use Rattle.fd_sample.specs.Probes.{positions_in}
use Rattle.fd_sample.proofs.Decided.{sample_told}
use Rattle.fd_sample.proofs.ByControl.{IsSampledAt, IsRegSample, IsBankSample, of_regulator, of_bank}
use Rattle.fd_sample.proofs.controls.verdict.Goals as goal

pub returns-in-Regulator : goal.returns-in-Regulator
returns-in-Regulator c =
    let x = c.args.centre.now in
    let r = c.args.radii.now in
    let v = c.regulator_verdict.result in
    let own : IsRegSample c.in-Regulator.control c.taps_of-taps.result x r v = record {
      sample = c.regulator_verdict.ensures.sample;
      edge = c.regulator_verdict.ensures.edge;
      every_state = c.regulator_verdict.ensures.every_state;
    } in
    let there = subst (λ (t : TapPair). IsRegSample c.in-Regulator.control t x r v) c.taps_of-taps.ensures.taps own in
    let all = subst (IsSampledAt (positions_in c.args.at.now) x r v) (sym c.in-Regulator.is)
    (of_regulator (positions_in c.args.at.now) x r v c.in-Regulator.control there) in
    record {
      sample = all.sample;
      edge = all.edge;
      verdict = sample_told c.args.probe.now (positions_in c.args.at.now) x r v all.sample;
      every_state = all.each;
    }

pub returns-in-Bank : goal.returns-in-Bank
returns-in-Bank c =
    let x = c.args.centre.now in
    let r = c.args.radii.now in
    let v = c.bank_verdict.result in
    let own : IsBankSample c.in-Bank.control c.is_closed-closed.result x r v = record {
      sample = c.bank_verdict.ensures.sample;
      edge = c.bank_verdict.ensures.edge;
      every_state = c.bank_verdict.ensures.every_state;
    } in
    let there = subst (λ (t : Bool). IsBankSample c.in-Bank.control t x r v) c.is_closed-closed.ensures own in
    let all = subst (IsSampledAt (positions_in c.args.at.now) x r v) (sym c.in-Bank.is) (of_bank (positions_in c.args.at.now) x r v c.in-Bank.control there) in
    record {
      sample = all.sample;
      edge = all.edge;
      verdict = sample_told c.args.probe.now (positions_in c.args.at.now) x r v all.sample;
      every_state = all.each;
    }
