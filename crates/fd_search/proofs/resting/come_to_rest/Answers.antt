use Rattle.std.proofs.Common.{arith, subst}
use Rattle.fd_search.specs.Stages.{IsTested}
use Rattle.fd_search.proofs.Stepping.{moving_more, next_after}
use Rattle.fd_search.proofs.resting.come_to_rest.Goals as goal

pub loop-number-preserved : goal.loop-number-preserved
loop-number-preserved c =
    let tested = subst (IsTested c.args.net.now c.args.order.now c.args.rows.now c.args.limits.now c.loop-number.x
    c.step_on.new.x c.loop-number.number) c.if-is_last.false c.in_ok-is_last.ensures.tested in
    record {
      state = next_after c.args.net.now c.args.order.now c.args.rows.now c.args.x.now c.loop-number.number
          c.loop-number.x c.step_on.new.x c.loop-number.invariant.state tested.state_is;
      moving = moving_more c.args.net.now c.args.order.now c.args.rows.now c.args.x.now c.loop-number.number
          c.loop-number.x c.step_on.new.x c.loop-number.invariant.state c.args.limits.now
          c.loop-number.invariant.moving tested;
      room = c.in_ok-is_last.ensures.tested.more c.if-is_last.false;
      point = c.in_ok-is_last.ensures.point;
    }

pub returns-clause-rest : goal.returns-clause-rest
returns-clause-rest c = absurd (omega (arith, c.loop-number.invariant.room, c.loop-number-test.false))
