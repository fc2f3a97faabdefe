use Rattle.std.proofs.Common.{◌∙◌, ◌+◌, ◌-◌, ◌^◌, min, nat_abs, take, arith, ap, sym, FitsSigned, rules}
use Rattle.std.specs.Int.{w64}
use Rattle.std.proofs.lemmas.Int.{to_z-of_z}
use Rattle.std.proofs.lemmas.List.{take_all}
use Rattle.fd_derived.specs.Rows.{entries_of}
use Rattle.fd_derived.specs.Sums.{capped, size_of}
use Rattle.fd_derived.proofs.Caps.{size_step}
use Rattle.fd_derived.proofs.Fronts.{in_row, list_more}
use Rattle.fd_derived.proofs.totals.size_of.Goals as goal

pub loop-entry-preserved : goal.loop-entry-preserved
loop-entry-preserved c =
    let k = c.loop-entry.entry-index in
    let row = c.args.row.now in
    let u = (in_row row k).units in
    let fits : FitsSigned w64 u = search rules in
    let size = c.unsigned_abs.ensures.value ∙ ap nat_abs (to_z-of_z w64 u fits) in
    let next = c.saturating_add-size.ensures ∙ ap (λ x. min (c.loop-entry.size + x) (2 ^ 128 - 1)) size in
    size_step c.loop-entry.size c.saturating_add-size.result (nat_abs u) (size_of (entries_of (take k row))) next c.loop-entry.invariant
    ∙ ap capped (sym (list_more (λ t. nat_abs t.1) row k c.loop-entry-test.true))

pub returns : goal.returns
returns c =
    let whole = take_all c.loop-entry.entry-index c.args.row.now (omega (arith, c.loop-entry.auto.entry-index-end, c.loop-entry-test.false)) in
    c.loop-entry.invariant ∙ ap (λ row. capped (size_of (entries_of row))) whole
