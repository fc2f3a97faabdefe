use Rattle.std.proofs.Common.{◌≡◌, ◌∙◌, ◌+◌, Ok, Err, ap, sym, subst}
use Rattle.fd_rungs.specs.declared.swept.Swept.TheVariants.{Settled}
use Rattle.fd_rungs.specs.Bounds.{IsMade, ladder_in, made_in}
use Rattle.fd_rungs.specs.Sweeps.{are_still, swept_once}
use Rattle.fd_rungs.proofs.Sweeping.{moves, past, still}
use Rattle.fd_rungs.proofs.iterate.sweeps.Goals as goal

pub returns-then-are_still : goal.returns-then-are_still
returns-then-are_still c =
    let made = ap (swept_once (ladder_in c.args.ladder.now) c.args.loads.now) (sym c.deref.ensures.value)
    ∙ sym c.in_ok-y.ensures.value ∙ ap made_in c.in-State-2.is in
    ap (λ y. Settled y (c.loop-sweep.sweep + 1)) c.new.ensures
    ∙ still (ladder_in c.args.ladder.now) c.args.loads.now c.args.nodes c.args.most c.loop-sweep.sweep c.loop-sweep.x.items
    c.in-State-2.y.items _ c.loop-sweep-test.true made ((λ i. are_still (sym c.deref-in-loop-sweep.ensures.value i) (sym c.deref-in-loop-sweep-2.ensures.value i) c.args.nodes) ∙ sym c.are_still.ensures ∙ c.if-are_still.true) c.loop-sweep.invariant.rest

pub returns-in-Past-2 : goal.returns-in-Past-2
returns-in-Past-2 c =
    let made = ap (swept_once (ladder_in c.args.ladder.now) c.args.loads.now) (sym c.deref.ensures.value)
    ∙ sym c.in_ok-y.ensures.value ∙ ap made_in c.in-Past-2.is in
    past (ladder_in c.args.ladder.now) c.args.loads.now c.args.nodes c.args.most c.loop-sweep.sweep c.loop-sweep.x.items
    c.in-Past-2.place _ c.loop-sweep-test.true made c.loop-sweep.invariant.rest

pub loop-sweep-preserved : goal.loop-sweep-preserved
loop-sweep-preserved c =
    let made = ap (swept_once (ladder_in c.args.ladder.now) c.args.loads.now) (sym c.deref.ensures.value)
    ∙ sym c.in_ok-y.ensures.value ∙ ap made_in c.in-State-2.is in
    record {
      rest = moves (ladder_in c.args.ladder.now) c.args.loads.now c.args.nodes c.args.most c.loop-sweep.sweep
          c.loop-sweep.x.items c.in-State-2.y.items _ c.loop-sweep-test.true made
          ((λ i. are_still (sym c.deref-in-loop-sweep.ensures.value i) (sym c.deref-in-loop-sweep-2.ensures.value i) c.args.nodes) ∙ sym c.are_still.ensures ∙ c.if-are_still.false) c.loop-sweep.invariant.rest;
      small = subst IsMade c.in-State-2.is c.in_ok-y.ensures.small;
    }
