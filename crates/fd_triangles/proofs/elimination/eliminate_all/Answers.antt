use Rattle.std.proofs.Common.{◌∙◌, refl}
use Rattle.fd_triangles.proofs.elimination.eliminate_all.Goals as goal

pub loop-t-preserved : goal.loop-t-preserved
loop-t-preserved c = record {
  running = λ es start. c.in-Ok.ensures.stage es c.args.order.now refl (c.loop-t.invariant.running es start);
  rows = c.in-Ok.ensures.rows;
  inside = c.in-Ok.ensures.inside;
  columns = c.in-Ok.ensures.columns ∙ c.loop-t.invariant.columns;
}

pub returns-in-Err : goal.returns-in-Err
returns-in-Err c = λ es start. c.in-Err.ensures.stage es c.args.order.now refl (c.loop-t.invariant.running es start)
