use Rattle.std.proofs.Common.{◌≤◌, ◌^◌, nat_abs, None, Some, arith, sym, subst, FitsSigned, rules}
use Rattle.std.specs.Int.{w128}
use Rattle.std.proofs.lemmas.Int.{to_z-of_z}
use Rattle.fd_enclosure.specs.fd_exact.States.{part}
use Rattle.fd_enclosure.specs.fd_equations.Amounts.{cell_at}
use Rattle.fd_cert.proofs.Units.{IsPartly, kept_by, partly_all, partly_more, partly_past, sum_read}
use Rattle.fd_cert.proofs.sums.add_products.Goals as goal

pub returns-in-None-clause-past : goal.returns-in-None-clause-past
returns-in-None-clause-past c = λ at r.
    let k = c.loop-cell.cell-index in
    let cell = cell_at c.args.cells.now k in
    let fu : FitsSigned w128 cell.units = search rules in
    let h = subst (λ f. IsPartly c.args.cells.now f c.args.sums.now c.loop-cell.sums k) (to_z-of_z w128 c.args.factor c.ranges.factor) c.loop-cell.invariant in
    let e = sum_read None (part c.loop-cell.sums cell.col) c.args.factor cell.units (h.units cell.col) c.ranges.factor fu c.in-None.ensures.sum in
    partly_past c.args.cells.now c.args.factor c.args.sums.now c.loop-cell.sums k at c.requires.columns c.loop-cell-test.true h (sym e) r

pub loop-cell-preserved : goal.loop-cell-preserved
loop-cell-preserved c =
    let k = c.loop-cell.cell-index in
    let cell = cell_at c.args.cells.now k in
    let fu : FitsSigned w128 cell.units = search rules in
    let f = to_z-of_z w128 c.args.factor c.ranges.factor in
    let h = subst (λ f. IsPartly c.args.cells.now f c.args.sums.now c.loop-cell.sums k) f c.loop-cell.invariant in
    let small : nat_abs c.in-Some.sum ≤ 2 ^ 120 = c.in-Some.ensures.small in
    let e = sum_read (Some c.in-Some.sum) (part c.loop-cell.sums cell.col) c.args.factor cell.units (h.units cell.col)
    c.ranges.factor fu c.in-Some.ensures.sum in
    rw (f, kept_by c.in-Some.sum (omega arith)) (partly_more c.args.cells.now c.args.factor c.args.sums.now
    c.loop-cell.sums k c.in-Some.sum c.requires.columns c.loop-cell-test.true h (sym e) small)

pub returns-clause-sums : goal.returns-clause-sums
returns-clause-sums c = λ at r.
    partly_all c.args.cells.now c.args.factor c.args.sums.now c.loop-cell.sums c.loop-cell.cell-index
    at c.requires.units (omega (arith, c.loop-cell.auto.cell-index-end, c.loop-cell-test.false))
    (subst (λ f. IsPartly c.args.cells.now f c.args.sums.now c.loop-cell.sums c.loop-cell.cell-index)
    (to_z-of_z w128 c.args.factor c.ranges.factor) c.loop-cell.invariant)
    r
