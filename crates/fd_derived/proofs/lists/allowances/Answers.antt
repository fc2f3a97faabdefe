use Rattle.std.proofs.Common.{◌∙◌, ℕ, ◌+◌, ◌*◌, ◌^◌, length, ap, subst, sym}
use Rattle.fd_factors.specs.fd_exact.Sums.{sum_n}
use Rattle.fd_derived.specs.Rows.{entries_of, number_at, radii_at, radii_of, radius, right_side_at, right_side_of}
use Rattle.fd_derived.specs.Sums.{AreTotals, capped}
use Rattle.fd_derived.proofs.Rows.{radii_read, right_side_read}
use Rattle.fd_derived.proofs.Allowed.{allowed, totals_more}
use Rattle.fd_derived.proofs.lists.allowances.Goals as goal

pub loop-row-preserved : goal.loop-row-preserved
loop-row-preserved c =
    let r = c.loop-row.row in
    let es = c.args.equations.now in
    let bs = c.args.bounds.now in
    let f : ℕ → ℕ = (λ l. sum_n (λ j. radius es l j * number_at bs j) (length es) + 2 ^ 40 * right_side_at es l) in
    let x = c.index-equations-row.result in
    let radii = radii_read es r x c.loop-row-test.true ∙ ap radii_of (sym c.index-equations-row.is) ∙ ap entries_of (sym c.deref.ensures.value) in
    let right = right_side_read es r x c.loop-row-test.true ∙ ap right_side_of (sym c.index-equations-row.is) in
    let first = c.plus_product-size.ensures ∙ ap (λ b. capped (0 + 2 ^ 40 * b)) (sym right) in
    let found = allowed bs (length es) (2 ^ 40 * right_side_at es r) (radii_at es r) (entries_of c.deref.result.now) c.plus_product-size.result
    c.plus_weighted.result c.requires radii first c.plus_weighted.ensures in
    subst (AreTotals f (r + 1)) (sym c.in_ok-push.ensures.items)
    (totals_more f r c.loop-row.sizes.items c.plus_weighted.result c.loop-row.invariant found)
