use Rattle.std.proofs.Common.{◌≡◌, ◌∙◌, true, false, length, ap, sym, below_more, arith}
use Rattle.fd_settle.proofs.Storing.{at_is}
use Rattle.fd_settle.proofs.kept_states.KeptStates.find.Goals as goal

pub loop-place-preserved : goal.loop-place-preserved
loop-place-preserved c = below_more _ _ c.loop-place.invariant (λ at.
    let are = at_is c.args.limits.now c.args.net.now c.self.inside.states.items c.args.self.now c.loop-place.place
    c.index.result.now c.self.view_is c.index.ensures at in
    let t = c.is_for.ensures.only are.0 are.1 in
    let e : true ≡ false = sym t ∙ c.if-is_for.false in
    cc e)

pub returns-clause-none : goal.returns-clause-none
returns-clause-none c = λ (place, at). c.loop-place.invariant place (omega (arith, at.inside, c.loop-place-test.false, ap length c.self.view_is)) at
