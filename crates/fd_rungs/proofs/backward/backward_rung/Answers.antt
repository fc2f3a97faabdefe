use Rattle.std.proofs.Common.{◌∙◌, ◌+◌, ◌*◌, ◌^◌, arith}
use Rattle.fd_rungs.specs.Passes.{backward_branch}
use Rattle.fd_rungs.proofs.Steps.{each_more}
use Rattle.fd_rungs.proofs.backward.backward_rung.Goals as goal

pub backward_branch-requires-clause-draws : goal.backward_branch-requires-clause-draws
backward_branch-requires-clause-draws c = λ place.
    let at = c.loop-branch.invariant.size (2 ^ 110) c.requires.draws place in
    omega (arith, at, c.loop-branch-test.true, c.requires.few)

pub loop-branch-preserved : goal.loop-branch-preserved
loop-branch-preserved c = record {
  rest = each_more backward_branch c.args.branches.now c.loop-branch.branch-index c.branch-item.result _ _ c.loop-branch-test.true
      c.branch-item.is c.in_ok-backward_branch.ensures.made ∙ c.loop-branch.invariant.rest;
  small = c.in_ok-backward_branch.ensures.small;
  long = c.in_ok-backward_branch.ensures.long ∙ c.loop-branch.invariant.long;
  size = λ n h place.
      let at = c.in_ok-backward_branch.ensures.size (n + c.loop-branch.branch-index * 2 ^ 80) (c.loop-branch.invariant.size n h) place in
      omega (arith, at);
}

pub returns-clause-size : goal.returns-clause-size
returns-clause-size c = λ n h place.
    let at = c.loop-branch.invariant.size n h place in
    omega (arith, at, c.loop-branch.auto.branch-index-end, c.requires.few)
