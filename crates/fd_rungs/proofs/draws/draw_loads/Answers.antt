use Rattle.std.proofs.Common.{◌∙◌, ◌+◌, ◌*◌, ◌^◌, pos, None, get_or, sym, arith}
use Rattle.std.proofs.lemmas.List.Sums.{fold_more}
use Rattle.fd_pattern.specs.fd_arith.declared.terms.LoadModel.TheVariants.{ConstantPower}
use Rattle.fd_pattern.specs.fd_arith.declared.terms.NodeAt.TheVariants.{Ground}
use Rattle.fd_pattern.specs.fd_system.declared.loads.LoadAt.{LoadAt}
use Rattle.fd_rungs.specs.Passes.{load_drawn}
use Rattle.fd_rungs.proofs.draws.draw_loads.Goals as goal

pub loop-load-preserved : goal.loop-load-preserved
loop-load-preserved c =
    let none : LoadAt = record {
      load = record { model = ConstantPower; p = pos 0; q = pos 0; vn = pos 0; vlo = pos 0; vhi = pos 0 };
      first = Ground;
      second = Ground;
      magnitude = None;
    } in
    record {
      value = c.draw_load.ensures.value
          ∙ (λ i. load_drawn c.args.x.now (c.loop-load.invariant.value i) (get_or c.args.loads.now c.loop-load.load-index none))
          ∙ sym (fold_more (load_drawn c.args.x.now) c.args.draws.now c.args.loads.now c.loop-load.load-index none c.loop-load-test.true);
      size = λ place. let at = c.draw_load.ensures.size (c.loop-load.load-index * 2 ^ 80) c.loop-load.invariant.size place in omega (arith, at);
    }
