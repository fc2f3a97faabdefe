use Rattle.std.proofs.Common.{◌≡◌, ◌∙◌, suc, ◌+◌, ◌*◌, ◌-◌, ◌<◌, ◌^◌, length, drop, map, Ok, ap, sym, arith}
use Rattle.std.proofs.lemmas.Result.{err_from_is_err_and}
use Rattle.fd_rungs.specs.declared.branch.Rung.{Rung}
use Rattle.fd_rungs.specs.Bounds.{branches_in}
use Rattle.fd_rungs.specs.Passes.{backward, backward_rung, flow_with}
use Rattle.fd_rungs.proofs.Steps.{back_err, back_step}
use Rattle.fd_rungs.proofs.backward.backward.Goals as goal

pub loop-left-preserved : goal.loop-left-preserved
loop-left-preserved c =
    let rs = c.args.rungs.now in
    let left = c.loop-left.left in
    let start = flow_with c.args.x.now c.args.draws.now in
    let at = flow_with c.loop-left.x c.loop-left.draws in
    let next : suc (left - 1) ≡ left = omega (arith, c.loop-left-test.true) in
    let low : left - 1 < length rs = omega (arith, c.loop-left-test.true, c.loop-left.invariant.within) in
    let made = ap (λ k. backward (map branches_in (drop k rs)) start) next ∙ c.loop-left.invariant.made in
    record {
      made = back_step rs (left - 1) c.index-rungs-left.result start at low c.index-rungs-left.is made
          ∙ ap (λ (r : Rung). backward_rung (branches_in r) at) c.index-rungs-left.is
          ∙ ap (λ bs. backward_rung bs at) (sym c.deref.ensures.value)
          ∙ c.in_ok-backward_rung.ensures.made;
      small = c.in_ok-backward_rung.ensures.small;
      long = c.in_ok-backward_rung.ensures.long ∙ c.loop-left.invariant.long;
      within = omega (arith, c.loop-left.invariant.within);
      size = λ place.
          let most = c.in_ok-backward_rung.ensures.size (2 ^ 105 + (length rs - left) * 2 ^ 82) c.loop-left.invariant.size place in
          omega (arith, most, c.loop-left-test.true, c.loop-left.invariant.within);
    }

pub returns-in_err-backward_rung-clause-made : goal.returns-in_err-backward_rung-clause-made
returns-in_err-backward_rung-clause-made c =
    let rs = c.args.rungs.now in
    let left = c.loop-left.left in
    let start = flow_with c.args.x.now c.args.draws.now in
    let at = flow_with c.loop-left.x c.loop-left.draws in
    let next : suc (left - 1) ≡ left = omega (arith, c.loop-left-test.true) in
    let low : left - 1 < length rs = omega (arith, c.loop-left-test.true, c.loop-left.invariant.within) in
    let made = ap (λ k. backward (map branches_in (drop k rs)) start) next ∙ c.loop-left.invariant.made in
    let p = err_from_is_err_and c.from_residual.result c.from_residual.ensures.1 in
    rw (p.1, p.2) (back_err rs (left - 1) start c.in_err-backward_rung.field-0.0
    (back_step rs (left - 1) c.index-rungs-left.result start at low c.index-rungs-left.is made
    ∙ ap (λ (r : Rung). backward_rung (branches_in r) at) c.index-rungs-left.is
    ∙ ap (λ bs. backward_rung bs at) (sym c.deref.ensures.value)
    ∙ c.in_err-backward_rung.ensures.made))
