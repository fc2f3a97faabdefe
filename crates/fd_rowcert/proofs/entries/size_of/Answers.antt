use Rattle.std.proofs.Common.{◌∙◌, ◌+◌, ◌-◌, ◌^◌, min, nat_abs, take, ap, sym, FitsSigned, rules}
use Rattle.std.specs.Int.{w128}
use Rattle.std.proofs.lemmas.Int.{to_z-of_z}
use Rattle.fd_cert.specs.fd_enclosure.fd_equations.Amounts.{cell_at}
use Rattle.fd_bounds.specs.fd_derived.Sums.{capped}
use Rattle.fd_rowcert.specs.Entries.{size_in}
use Rattle.fd_rowcert.proofs.Cells.{capped_step, size_more}
use Rattle.fd_rowcert.proofs.entries.size_of.Goals as goal

pub loop-cell-preserved : goal.loop-cell-preserved
loop-cell-preserved c =
    let k = c.loop-cell.cell-index in
    let cells = c.args.cells.now in
    let u = (cell_at cells k).units in
    let fits : FitsSigned w128 u = search rules in
    let size = c.unsigned_abs.ensures.value ∙ ap nat_abs (to_z-of_z w128 u fits) in
    let next = c.saturating_add-size.ensures ∙ ap (λ x. min (c.loop-cell.size + x) (2 ^ 128 - 1)) size in
    capped_step c.loop-cell.size c.saturating_add-size.result (nat_abs u) (size_in
    (take k cells)) next c.loop-cell.invariant
    ∙ ap capped (sym (size_more cells k c.loop-cell-test.true))
