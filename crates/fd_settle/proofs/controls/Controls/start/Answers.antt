use Rattle.std.proofs.Common.{◌≡◌, ◌≤◌, ◌^◌, length, ap, arith, refl, rules, subst, ◌∙◌}
use Rattle.fd_sample.specs.Circuits.{AreProbes}
use Rattle.fd_settle.specs.Acting.{fresh_from}
use Rattle.fd_settle.specs.Plant.{controls_in, timing_of}
use Rattle.fd_settle.proofs.Starting.{IsStarted, fresh_length, started_machine, started_work}
use Rattle.fd_settle.proofs.controls.Controls.start.Goals.{After-len-count, After-timing_of}
use Rattle.fd_settle.proofs.controls.Controls.start.Goals as goal

fresh : (c : After-len-count)
    → c.in_ok-states.states.items ≡ fresh_from c.args.clock.now.opened.items 0 (controls_in c.args.circuit.now)
fresh c = c.in_ok-states.ensures ∙ ap (λ os. fresh_from os 0 c.taking_part-probes.result.now) c.deref.ensures.value
    ∙ ap (fresh_from c.args.clock.now.opened.items 0) c.taking_part-probes.ensures.probes

fit : (c : After-len-count) → AreProbes c.args.circuit.now.elements (controls_in c.args.circuit.now)
fit c = subst (AreProbes c.args.circuit.now.elements) c.taking_part-probes.ensures.probes c.taking_part-probes.ensures.fit

few : (c : After-len-count) → length c.in_ok-states.states.items ≤ 2 ^ 17
few c =
    let each = ap length (fresh c) ∙ fresh_length c.args.clock.now.opened.items 0 (controls_in c.args.circuit.now) in
    omega (arith, each, (fit c).few, c.elements-elements.ensures.few)

begun : (c : After-timing_of) → IsStarted c.args.circuit.now c.args.clock.now (record {
  states = c.in_ok-states.states;
  verdicts = c.in_ok-with_capacity.field-0;
  queue = c.in_ok-with_room.field-0;
  due = c.in_ok-with_capacity-2.field-0;
  made = 0;
  limit = c.options.result.now.maxcontroliter;
  timing = c.timing_of.result;
})
begun c = record {
  states = c.in_ok-states.ensures ∙ ap (λ os. fresh_from os 0 c.taking_part-probes.result.now) c.deref.ensures.value
      ∙ ap (fresh_from c.args.clock.now.opened.items 0) c.taking_part-probes.ensures.probes;
  entries = c.in_ok-with_room.ensures.empty;
  next = c.in_ok-with_room.ensures.next;
  spare = search rules;
  due = search rules;
  verdicts = search rules;
  made = refl;
  limit = ap (λ o. o.maxcontroliter) c.options.ensures.value;
  timing = c.timing_of.ensures ∙ ap (λ o. timing_of o.controlmode) c.options-2.ensures.value;
}

pub overflow_cast-count : goal.overflow_cast-count
overflow_cast-count c =
    let most = few (goal.at.overflow_cast-count c).After-len-count in
    let n : c.len-count.result ≤ 2 ^ 17 = omega (arith, most, c.len-count.ensures, c.in_ok-states.states.ok.0) in
    search rules

pub returns-clause-machine : goal.returns-clause-machine
returns-clause-machine c = λ at. started_machine _ _ _ at (begun (goal.at.returns-clause-machine c).After-timing_of)

pub returns-clause-work : goal.returns-clause-work
returns-clause-work c = λ at powers positions.
    started_work _ _ _ at powers (begun (goal.at.returns-clause-work c).After-timing_of) c.requires.clock positions
    (subst (AreProbes c.args.circuit.now.elements) c.taking_part-probes.ensures.probes c.taking_part-probes.ensures.fit) c.elements-elements.ensures.few
    c.options.ensures.in_range.maxcontroliter
