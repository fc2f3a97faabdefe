use Rattle.std.proofs.Common.{◌≡◌, ◌++◌, ◌∷◌, [], ap, rules, ◌∙◌}
use Rattle.fd_settle.specs.declared.state.ControlState.{ControlState}
use Rattle.fd_settle.proofs.Starting.{fresh_push}
use Rattle.fd_settle.proofs.controls.fresh_states.Goals as goal

pub loop-control-preserved : goal.loop-control-preserved
loop-control-preserved c =
    let pushed : c.push.new.self.items ≡ c.loop-control.states.items ++ c.new.result ∷ [] = search rules in
    pushed ∙ ap (λ (s : ControlState). c.loop-control.states.items ++ s ∷ []) c.new.ensures
    ∙ fresh_push c.args.opened.now c.args.probes.now c.loop-control.control _ c.loop-control.states.items c.loop-control-test.true c.loop-control.invariant
