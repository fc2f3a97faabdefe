use Rattle.std.proofs.lemmas.Result.{err_from_is_err_and}
use Rattle.fd_search.proofs.Stepping.{fall_more, next_after, no_fall}
use Rattle.fd_search.proofs.falling.fall.Goals as goal

pub returns-in_err-kept-clause-fall : goal.returns-in_err-kept-clause-fall
returns-in_err-kept-clause-fall c =
    let p = err_from_is_err_and c.from_residual-in_err-kept.result c.from_residual-in_err-kept.ensures.1 in
    rw (p.1, p.2) (no_fall c.args.net.now c.args.order.now c.args.rows.now c.args.x.now c.loop-more.more c.loop-more.x
    c.loop-more.x c.loop-more.invariant.state c.args.number c.in_err-kept.field-0.0 c.loop-more-test.true
    c.loop-more.invariant.fall c.in_err-kept.ensures.tried)

pub loop-more-preserved : goal.loop-more-preserved
loop-more-preserved c =
    let tried = c.in_ok-kept.ensures.tried in
    let kept = tried.if_kept c.if-not-kept.false in
    record {
      state = next_after c.args.net.now c.args.order.now c.args.rows.now c.args.x.now c.loop-more.more c.loop-more.x
          c.try_step.new.x c.loop-more.invariant.state kept.state_is;
      fall = fall_more c.args.net.now c.args.order.now c.args.rows.now c.args.x.now c.loop-more.more c.loop-more.x
          c.try_step.new.x c.loop-more.invariant.state c.loop-more.invariant.fall tried.fine kept.falls;
      mismatches = kept.mismatches_are;
      point = c.in_ok-kept.ensures.point;
    }
