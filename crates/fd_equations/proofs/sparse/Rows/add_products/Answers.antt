use Rattle.std.proofs.Common.{◌≤◌, ◌^◌, nat_abs, arith, refl, sym, subst}
use Rattle.fd_mat.specs.fd_exact.States.{part}
use Rattle.fd_equations.proofs.Products.{all_added, kept_row, row_added, row_few, row_small, row_sum}
use Rattle.fd_equations.proofs.sparse.Rows.add_products.Goals as goal

pub loop-row-init : goal.loop-row-init
loop-row-init c = record { long = refl; done = λ k l. absurd (omega arith); left = λ k l. refl }

pub row_product-requires-clause-few : goal.row_product-requires-clause-few
row_product-requires-clause-few c =
    row_few c.args.self.now.terms c.args.self.now.loads c.args.x.now c.args.self.now.size c.loop-row.row
    c.row.result.now c.row.ensures (subst (λ n. n ≤ 2 ^ 11) c.size-row-end.ensures.size c.size-row-end.ensures.small)

pub row_product-requires-clause-small : goal.row_product-requires-clause-small
row_product-requires-clause-small c =
    row_small c.args.self.now.terms c.args.self.now.loads c.args.x.now c.args.self.now.size c.loop-row.row
    c.row.result.now c.row.ensures c.requires.entries

pub loop-row-preserved : goal.loop-row-preserved
loop-row-preserved c =
    let ts = c.args.self.now.terms in
    let x = c.args.x.now in
    let size = c.args.self.now.size in
    let row = c.loop-row.row in
    let rows = c.loop-row.rows in
    let h = c.loop-row.invariant in
    let sum = row_sum ts c.args.self.now.loads x size row c.row.result.now c.row.ensures c.row_product.result c.row_product.ensures.sum in
    let known = subst (λ z. nat_abs z ≤ 2 ^ 84) (sym (h.left row (omega arith))) (c.requires.room row) in
    row_added ts x size c.args.rows.now rows row _ c.row_product.result
    (omega (arith, c.loop-row-test.true, c.size-row-end.ensures.size, c.requires.rows, h.long)) h sum
    (kept_row (part rows row) c.row_product.result known c.row_product.ensures.small)

pub returns : goal.returns
returns c =
    all_added c.args.self.now.terms c.args.x.now c.args.self.now.size c.args.rows.now c.loop-row.rows c.loop-row.row
    (omega (arith, c.loop-row-test.false, c.size-row-end.ensures.size)) c.requires.rows c.loop-row.invariant
