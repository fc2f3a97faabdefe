use Rattle.std.proofs.Common.{◌∙◌, ◌+◌, ◌*◌, ◌^◌, pos, get_or, sym, arith}
use Rattle.std.proofs.lemmas.List.Sums.{fold_more}
use Rattle.fd_pattern.specs.fd_arith.declared.terms.NodeAt.TheVariants.{Ground}
use Rattle.fd_rungs.specs.declared.branch.Shunt.{Shunt}
use Rattle.fd_rungs.specs.Passes.{shunt_drawn}
use Rattle.fd_rungs.proofs.draws.draw_shunts.Goals as goal

pub loop-shunt-preserved : goal.loop-shunt-preserved
loop-shunt-preserved c =
    let none : Shunt = record {
      charge = pos 0;
      across = record { first = Ground; second = Ground };
      into = record { first = Ground; second = Ground };
    } in
    record {
      value = c.draw_shunt.ensures.value
          ∙ (λ i. shunt_drawn c.args.x.now (c.loop-shunt.invariant.value i) (get_or c.args.shunts.now c.loop-shunt.shunt-index none))
          ∙ sym (fold_more (shunt_drawn c.args.x.now) c.args.draws.now c.args.shunts.now c.loop-shunt.shunt-index none c.loop-shunt-test.true);
      size = λ place.
          let at = c.draw_shunt.ensures.size (2 ^ 101 + c.loop-shunt.shunt-index * 2 ^ 80) c.loop-shunt.invariant.size place in
          omega (arith, at);
    }
