use Rattle.std.proofs.Common.{◌∙◌, ◌<◌, length, get_or, set, arith, refl, sym, subst, inl, inr}
use Rattle.fd_triangles.specs.Columns.{HasNoted}
use Rattle.fd_triangles.specs.Factors.{AreRows, no_parts, parts_in}
use Rattle.fd_triangles.specs.Rows.{IsRow}
use Rattle.fd_triangles.specs.Steps.{IsCleared, IsClearedPast, Parts, parts_of}
use Rattle.fd_triangles.proofs.Cleared.{if_on}
use Rattle.fd_triangles.proofs.Lists.{at_read}
use Rattle.fd_triangles.proofs.Stages.{clearing_more, clearing_past, rows_more}
use Rattle.fd_triangles.proofs.elimination.clear_rows.Goals as goal

pub clear-requires-clause-row : goal.clear-requires-clause-row
clear-requires-clause-row c =
    let index = get_or c.args.holding.now c.loop-index.index-index 0 in
    let low : index < length c.args.work.now = c.requires.inside c.loop-index.index-index 0 c.loop-index-test.true in
    let index_in : index < length c.loop-index.work = omega (arith, low, c.loop-index.auto.work) in
    let here = at_read parts_of no_parts c.loop-index.work index c.index-work-index.result index_in in
    subst (λ (p : Parts). IsRow (length c.loop-index.columns) p.left) here (c.loop-index.invariant.rows index index_in)

pub loop-index-preserved : goal.loop-index-preserved
loop-index-preserved c =
    let k = c.loop-index.index-index in
    let holding = c.args.holding.now in
    let work = c.loop-index.work in
    let columns = c.loop-index.columns in
    let pivot = c.args.pivot.now in
    let others = c.args.others.now in
    let index = get_or holding k 0 in
    let low : index < length c.args.work.now = c.requires.inside k 0 c.loop-index-test.true in
    let index_in : index < length work = omega (arith, low, c.loop-index.auto.work) in
    let here = at_read parts_of no_parts work index c.index-work-index.result index_in in
    let is : IsCleared (length columns) (parts_in work index) (parts_of c.clear.new.row) pivot others c.args.t =
    subst (λ (p : Parts). IsCleared (length columns) p (parts_of c.clear.new.row) pivot others c.args.t) (sym here) c.in-Ok.ensures.cleared in
    let noted : HasNoted columns c.clear.new.columns (parts_in work index).left (parts_of c.clear.new.row).left index =
    subst (λ (p : Parts). HasNoted columns c.clear.new.columns p.left (parts_of c.clear.new.row).left index) (sym here) c.in-Ok.ensures.noted in
    record {
      stage = λ es order has start. clearing_more es order c.args.t holding k work columns pivot others has c.requires.pivot
          (c.loop-index.invariant.stage es order has start) index index_in c.clear.new.row c.clear.new.columns
          c.loop-index-test.true refl is noted;
      rows = subst (λ n. AreRows n (set work index c.clear.new.row)) (sym noted.long)
          (rows_more work index c.clear.new.row index_in (length columns) c.loop-index.invariant.rows is.left);
      columns = noted.long ∙ c.loop-index.invariant.columns;
      noted = λ p i h. elim (noted.from p i h) [
        | inl old ↦ c.loop-index.invariant.noted p i old
        | inr e ↦ omega (arith, e, low)
      ];
    }

pub returns-in-Err-clause-stage : goal.returns-in-Err-clause-stage
returns-in-Err-clause-stage c = λ es order has start.
    let k = c.loop-index.index-index in
    let holding = c.args.holding.now in
    let work = c.loop-index.work in
    let index = get_or holding k 0 in
    let low : index < length c.args.work.now = c.requires.inside k 0 c.loop-index-test.true in
    let index_in : index < length work = omega (arith, low, c.loop-index.auto.work) in
    let here = at_read parts_of no_parts work index c.index-work-index.result index_in in
    if_on c.in-Err.stop _ _ (λ past. clearing_past es order c.args.t holding k work c.loop-index.columns c.args.pivot.now
    c.args.others.now has c.requires.pivot (c.loop-index.invariant.stage es order has start) index index_in
    (c.loop-index.invariant.rows index index_in)
    (subst (λ (p : Parts). IsClearedPast p.left c.args.pivot.now c.args.others.now) (sym here) past))
    c.in-Err.ensures.cleared
