use Rattle.std.proofs.Common.{◌∙◌, length, ap, subst, sym, refl}
use Rattle.fd_cert.specs.fd_enclosure.Sound.{mismatches_of}
use Rattle.fd_inject.specs.fd_equations.fd_pattern.Conditions.{IsPoint}
use Rattle.fd_search.proofs.Changes.{length-next, moved_next}
use Rattle.fd_search.proofs.Stepping.{not_false, not_true, sum_falls, sum_stays}
use Rattle.fd_search.specs.States.{next_state}
use Rattle.fd_search.proofs.falling.try_step.Goals as goal

pub returns-then-falls-clause-tried : goal.returns-then-falls-clause-tried
returns-then-falls-clause-tried c =
    let v = c.args.net.now in
    let x = c.args.x.now in
    let next = next_state v c.args.order.now c.args.rows.now x in
    let stepped = c.in_ok-update.ensures.step in
    record {
      fine = stepped.fine;
      if_kept = λ _. record {
        state_is = stepped.state_is;
        mismatches_are = c.in_ok-new.ensures.mismatches;
        falls = sum_falls v x next c.deref.result.now c.deref-2.result.now
            (c.deref.ensures.value ∙ c.requires.mismatches)
            (c.deref-2.ensures.value ∙ c.in_ok-new.ensures.mismatches ∙ ap (mismatches_of v) stepped.state_is)
            (sym c.falls.ensures ∙ c.if-falls.true);
      };
      if_not = λ e. absurd (not_false e);
    }

pub returns-clause-tried : goal.returns-clause-tried
returns-clause-tried c =
    let v = c.args.net.now in
    let x = c.args.x.now in
    let next = next_state v c.args.order.now c.args.rows.now x in
    let stepped = c.in_ok-update.ensures.step in
    let update = c.deref-else-falls.ensures.value ∙ stepped.update_is in
    record {
      fine = stepped.fine;
      if_kept = λ e. absurd (not_true e);
      if_not = λ _. record {
        state_is = c.take_back.ensures x
            (sym (ap length stepped.state_is ∙ length-next v c.args.order.now c.args.rows.now x))
            (moved_next v c.args.order.now c.args.rows.now x c.deref-else-falls.result.now c.step.new.x update
            stepped.state_is);
        mismatches_are = refl;
        stays = sum_stays v x next c.deref.result.now c.deref-2.result.now
            (c.deref.ensures.value ∙ c.requires.mismatches)
            (c.deref-2.ensures.value ∙ c.in_ok-new.ensures.mismatches ∙ ap (mismatches_of v) stepped.state_is)
            (sym c.falls.ensures ∙ c.if-falls.false);
      };
    }

pub returns-clause-point : goal.returns-clause-point
returns-clause-point c =
    let v = c.args.net.now in
    let x = c.args.x.now in
    let stepped = c.in_ok-update.ensures.step in
    let update = c.deref-else-falls.ensures.value ∙ stepped.update_is in
    subst (IsPoint v) (sym (c.take_back.ensures x
    (sym (ap length stepped.state_is ∙ length-next v c.args.order.now c.args.rows.now x))
    (moved_next v c.args.order.now c.args.rows.now x c.deref-else-falls.result.now c.step.new.x update
    stepped.state_is))) c.requires.point
