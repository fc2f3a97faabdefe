use Rattle.std.proofs.Common.{◌∙◌, ◌+◌, ◌*◌, nat_abs, take, arith, ap, sym, FitsSigned, rules}
use Rattle.std.specs.Int.{w64}
use Rattle.std.proofs.lemmas.Int.{to_z-of_z}
use Rattle.std.proofs.lemmas.List.{take_all}
use Rattle.fd_factors.specs.Factors.{weighted_size}
use Rattle.fd_derived.specs.Rows.{entries_of, number_at}
use Rattle.fd_derived.specs.Sums.{capped}
use Rattle.fd_derived.proofs.Caps.{capped_start, weigh_step}
use Rattle.fd_derived.proofs.Fronts.{in_row, list_more}
use Rattle.fd_derived.proofs.totals.plus_weighted.Goals as goal

pub loop-entry-init : goal.loop-entry-init
loop-entry-init c = capped_start c.args.total (search rules)

pub loop-entry-preserved : goal.loop-entry-preserved
loop-entry-preserved c =
    let k = c.loop-entry.entry-index in
    let row = c.args.row.now in
    let numbers = c.args.numbers.now in
    let e = in_row row k in
    let fits : FitsSigned w64 e.units = search rules in
    let size = c.unsigned_abs-size.ensures.value ∙ ap nat_abs (to_z-of_z w64 e.units fits) in
    let next = c.plus_product-whole.ensures ∙ (λ i. capped (c.loop-entry.whole + size i * c.number_at.ensures i)) in
    weigh_step c.loop-entry.whole c.plus_product-whole.result c.args.total (weighted_size (entries_of (take k row)) (number_at numbers))
    (nat_abs e.units * number_at numbers e.place) next c.loop-entry.invariant
    ∙ ap (λ w. capped (c.args.total + w)) (sym (list_more (λ t. nat_abs t.1 * number_at numbers t.0) row k c.loop-entry-test.true))

pub returns : goal.returns
returns c =
    let whole = take_all c.loop-entry.entry-index c.args.row.now (omega (arith, c.loop-entry.auto.entry-index-end, c.loop-entry-test.false)) in
    c.loop-entry.invariant ∙ ap (λ row. capped (c.args.total + weighted_size (entries_of row) (number_at c.args.numbers.now))) whole
