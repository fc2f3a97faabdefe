use Rattle.std.proofs.Common.{◌≡◌, ◌∙◌, ◌<◌, ◌≤◌, ◌^◌, ◌*ℤ◌, pos, nat_abs, length, lit≤, arith, ap, refl}
use Rattle.std.proofs.lemmas.List.{take_all}
use Rattle.std.proofs.lemmas.List.Elements.{All-get_or}
use Rattle.fd_mat.specs.fd_exact.Rounding.{near_div}
use Rattle.fd_mat.specs.fd_exact.States.{part}
use Rattle.fd_mat.specs.fd_exact.Sums.{list_z}
use Rattle.fd_equations.specs.Amounts.{cell_at}
use Rattle.fd_pattern.specs.Conditions.{IsPart}
use Rattle.fd_equations.proofs.Products.{next_product}
use Rattle.fd_equations.proofs.Sizes.{kept_by, kept_more, part_size, small_size}
use Rattle.fd_equations.proofs.sparse.row_product.Goals as goal

pub loop-cell-init : goal.loop-cell-init
loop-cell-init c = record { is = refl; small = lit≤ tt }

pub loop-cell-preserved : goal.loop-cell-preserved
loop-cell-preserved c =
    let x = c.args.x.now in
    let k = c.loop-cell.cell-index in
    let cells = c.args.cells.now in
    let l : k < length cells = omega (arith, c.loop-cell-test.true) in
    let s = small_size (cell_at cells k).units (c.requires.small k l) in
    let inside = c.requires.inside k l in
    let p = part_size (part x (cell_at cells k).col) (All-get_or IsPart x (cell_at cells k).col (pos 0) inside c.requires.point) in
    let u = kept_by (cell_at cells k).units (omega (arith, s)) in
    let v = kept_by (part x (cell_at cells k).col) (omega (arith, p)) in
    let product : c.product.result ≡ (cell_at cells k).units *ℤ part x (cell_at cells k).col = c.product.ensures.value ∙ (λ i. u i *ℤ v i) in
    let near : c.near_over_coef-sum.result
    ≡ near_div ((cell_at cells k).units *ℤ part x (cell_at cells k).col) (2 ^ 40) =
    c.near_over_coef-sum.ensures.value
    ∙ ap (λ z. near_div z (2 ^ 40)) (kept_by c.product.result (omega (arith, c.product.ensures.small)) ∙ product) in
    let size : nat_abs c.near_over_coef-sum.result ≤ 2 ^ 54 = omega (
      arith,
      c.near_over_coef-sum.ensures.size,
      c.product.ensures.small,
      ap nat_abs (kept_by c.product.result (omega (arith, c.product.ensures.small))),
    ) in
    next_product x cells k _ _ c.near_over_coef-sum.result l c.loop-cell.invariant near size
    (kept_more _ c.near_over_coef-sum.result (omega (arith, c.loop-cell.invariant.small, c.requires.few)) size)

pub returns-clause-sum : goal.returns-clause-sum
returns-clause-sum c =
    c.loop-cell.invariant.is
    ∙ ap (list_z (λ y. near_div (y.units *ℤ part c.args.x.now y.col) (2 ^ 40)))
    (take_all c.loop-cell.cell-index c.args.cells.now c.loop-cell-test.false)

pub returns-clause-small : goal.returns-clause-small
returns-clause-small c = omega (arith, c.loop-cell.invariant.small, c.requires.few, c.loop-cell.auto.cell-index-end)
