use Rattle.std.proofs.Common.{sym, subst}
use Rattle.std.specs.Prelude.{IsSome}
use Rattle.fd_regctl.specs.fd_arith.Interval.{Bounds}
use Rattle.fd_sample.specs.Banks.{cap_decision, cap_edge}
use Rattle.fd_sample.specs.Samples.{IsRootSample, IsValueSample, TellsEdge, least_root, greatest_root, least_value, greatest_value}
use Rattle.fd_sample.proofs.Banks.{IsSampled, of_voltage, of_current, of_power, cap_of_all}
use Rattle.fd_sample.proofs.bank_sample.bank_verdict.Goals as goal

pub returns-in-Voltage : goal.returns-in-Voltage
returns-in-Voltage c =
    let p = c.args.probe.now in
    let t = c.args.closed in
    let x = c.args.centre.now in
    let r = c.args.radii.now in
    let w = c.over_squares.result in
    let own = of_voltage p t x r w c.in-Voltage.node c.in-Voltage.ratio
    (subst (λ (s : Bounds). IsRootSample (cap_decision p t) (λ d. cap_edge p t) s w) c.ratio_squares.ensures c.over_squares.ensures.sample)
    (subst (λ (s : Bounds). IsSome s → TellsEdge (cap_decision p t) (least_root s) (greatest_root s) w) c.ratio_squares.ensures c.over_squares.ensures.edge) in
    let all = subst (IsSampled p t x r w) (sym c.in-Voltage.is) own in
    record {
      sample = all.sample;
      edge = all.edge;
      every_state = λ y d b e. cap_of_all p t p.measured x r y w d c.requires.probe.measured b all.sample e;
    }

pub returns-in-Current : goal.returns-in-Current
returns-in-Current c =
    let p = c.args.probe.now in
    let t = c.args.closed in
    let x = c.args.centre.now in
    let r = c.args.radii.now in
    let w = c.over_squares-in-Current.result in
    let own = of_current p t x r w c.in-Current.branch c.in-Current.ratio
    (subst (λ (s : Bounds). IsRootSample (cap_decision p t) (λ d. cap_edge p t) s w)
    c.ratio_squares-in-Current.ensures c.over_squares-in-Current.ensures.sample)
    (subst (λ (s : Bounds). IsSome s → TellsEdge (cap_decision p t) (least_root s) (greatest_root s) w)
    c.ratio_squares-in-Current.ensures c.over_squares-in-Current.ensures.edge) in
    let all = subst (IsSampled p t x r w) (sym c.in-Current.is) own in
    record {
      sample = all.sample;
      edge = all.edge;
      every_state = λ y d b e. cap_of_all p t p.measured x r y w d c.requires.probe.measured b all.sample e;
    }

pub returns-in-Kvar : goal.returns-in-Kvar
returns-in-Kvar c =
    let p = c.args.probe.now in
    let t = c.args.closed in
    let x = c.args.centre.now in
    let r = c.args.radii.now in
    let w = c.over_values.result in
    let own = of_power p t x r w c.in-Kvar.end
    (subst (λ (s : Bounds). IsValueSample (cap_decision p t) (λ d. cap_edge p t) s w) c.reactive_power.ensures
    c.over_values.ensures.sample)
    (subst (λ (s : Bounds). IsSome s → TellsEdge (cap_decision p t) (least_value s) (greatest_value s) w)
    c.reactive_power.ensures c.over_values.ensures.edge) in
    let all = subst (IsSampled p t x r w) (sym c.in-Kvar.is) own in
    record {
      sample = all.sample;
      edge = all.edge;
      every_state = λ y d b e. cap_of_all p t p.measured x r y w d c.requires.probe.measured b all.sample e;
    }
