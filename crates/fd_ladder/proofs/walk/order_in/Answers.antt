use Rattle.std.proofs.Common.{◌≡◌, ◌∙◌, ◌-◌, ap, length, [], arith}
use Rattle.fd_ladder.specs.Radial.{Reach, passes, reach_all, reach_of, reach_at}
use Rattle.fd_ladder.proofs.Waking.{all_are_due}
use Rattle.fd_ladder.proofs.Passing.{all_passed, empty_none}
use Rattle.fd_ladder.proofs.walk.order_in.Goals as goal

pub loop-pass-init : goal.loop-pass-init
unfolding reach_of
loop-pass-init c =
    let sections = c.args.sections.now in
    let all : length sections - 0 ≡ length sections = omega arith in
    record {
      rest = (λ i. passes (all i) sections (reach_at (c.in_ok-reach_all.ensures.nodes i) (c.new-order.ensures.empty i)))
          ∙ ap (λ nodes. passes (length sections) sections (reach_at (reach_all nodes c.args.source.now) [])) c.new-nodes.ensures.empty;
      due = all_are_due sections c.in_ok-touching.touching.entries _ _ c.in_ok-due.due c.reach_all.new.due _
          c.in_ok-due.ensures c.in_ok-reach_all.ensures.due;
    }

pub returns-then-is_empty : goal.returns-then-is_empty
returns-then-is_empty c =
    ap (λ (r : Reach). r.order)
    (all_passed (length c.args.sections.now - c.loop-pass._pass) c.args.sections.now c.loop-pass.due _ _ c.loop-pass.invariant.due
    (empty_none c.loop-pass.due (c.is_empty.ensures.0 c.if-is_empty.true)) c.loop-pass.invariant.rest)
