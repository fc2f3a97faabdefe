use Rattle.std.proofs.Common.{◌∙◌, ℕ, ◌+◌, ap, subst, sym}
use Rattle.fd_derived.specs.Rows.{coefficients_at, entries_of}
use Rattle.fd_derived.specs.Sums.{AreTotals, capped, size_of}
use Rattle.fd_derived.proofs.Rows.{coefficients_read}
use Rattle.fd_derived.proofs.Allowed.{totals_more}
use Rattle.fd_derived.proofs.lists.coefficient_sizes.Goals as goal

pub loop-row-preserved : goal.loop-row-preserved
loop-row-preserved c =
    let r = c.loop-row.row in
    let f : ℕ → ℕ = (λ l. size_of (coefficients_at c.args.equations.now l)) in
    let x = c.index-equations-row.result in
    let read = coefficients_read c.args.equations.now r x c.loop-row-test.true in
    let is = ap size_of (read ∙ ap entries_of (sym c.deref.ensures.value)) in
    subst (AreTotals f (r + 1)) (sym c.in_ok-push.ensures.items)
    (totals_more f r c.loop-row.sizes.items c.size_of.result c.loop-row.invariant (c.size_of.ensures ∙ ap capped (sym is)))
