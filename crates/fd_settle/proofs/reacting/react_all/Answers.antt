use Rattle.std.proofs.Common.{◌≡◌, map, length, get_or, ap, arith, subst, sym, ◌∙◌}
use Rattle.std.proofs.lemmas.List.{get_or-map, length-map}
use Rattle.fd_sample.specs.fd_queue.Decisions.{Decision}
use Rattle.fd_sample.specs.fd_queue.Verdicts.{decision}
use Rattle.fd_settle.specs.Acting.{Reacts, with_verdict}
use Rattle.fd_sample.specs.fd_queue.declared.verdict.Verdict.TheVariants.{Raise}
use Rattle.fd_settle.proofs.Reactions.{next_early, next_reacted, next_room, none_reacted}
use Rattle.fd_settle.proofs.reacting.react_all.Goals as goal

pub loop-control-init : goal.loop-control-init
loop-control-init c = none_reacted _ _ _ _ c.requires.openings

pub react-requires-clause-times : goal.react-requires-clause-times
react-requires-clause-times c =
    let vs = map decision c.args.verdicts.now in
    let each : length vs ≡ length c.args.verdicts.now = length-map c.args.verdicts.now decision in
    next_early _ _ vs _ _ _ _ _ c.loop-control.invariant (omega (arith, each, c.loop-control-test.true))
    (omega (arith, each, c.requires.each)) c.requires.states c.requires.times c.requires.early c.requires.now

pub react-requires-clause-room : goal.react-requires-clause-room
react-requires-clause-room c =
    let vs = map decision c.args.verdicts.now in
    let each : length vs ≡ length c.args.verdicts.now = length-map c.args.verdicts.now decision in
    next_room c.queue_law.ensures c.spare_law.ensures _ _ vs _ _ _ _ _ c.loop-control.invariant (omega (arith, each, c.loop-control-test.true))
    (omega (arith, each, c.requires.each)) c.requires.states c.requires.queue c.requires.room

pub loop-control-preserved : goal.loop-control-preserved
loop-control-preserved c =
    let vs = map decision c.args.verdicts.now in
    let each : length vs ≡ length c.args.verdicts.now = length-map c.args.verdicts.now decision in
    let v = decision (get_or c.args.verdicts.now c.loop-control.control (Raise 0)) in
    let is : v ≡ get_or vs c.loop-control.control v =
    sym (get_or-map decision c.args.verdicts.now c.loop-control.control (Raise 0) v c.loop-control-test.true) in
    let s = get_or c.loop-control.states c.loop-control.control c.index-states-control.result in
    let new : c.react.new.self ≡ with_verdict (get_or vs c.loop-control.control v) s = c.react.ensures.state ∙ ap (λ (d : Decision). with_verdict d s) is in
    let reacts : Reacts s c.loop-control.queue c.react.new.queue c.args.clock.now.now (get_or vs c.loop-control.control v) =
    subst (λ (d : Decision). Reacts s c.loop-control.queue c.react.new.queue c.args.clock.now.now d) is c.react.ensures.step in
    next_reacted _ _ vs _ _ _ c.react.new.queue _ c.index-states-control.result c.react.new.self v c.loop-control.invariant
    (omega (arith, each, c.loop-control-test.true)) (omega (arith, each, c.requires.each))
    c.requires.states c.requires.times c.requires.now new reacts c.react.ensures.numbers c.react.ensures.room
