use Rattle.std.proofs.Common.{◌∙◌, ◌+◌, ap, sym}
use Rattle.fd_factors.specs.Factors.{DerivedRow, weighted_size}
use Rattle.fd_derived.specs.Rows.{entries_of, number_at}
use Rattle.fd_derived.specs.Sums.{capped}
use Rattle.fd_derived.proofs.Loads.{sizes}
use Rattle.fd_derived.proofs.Rows.{row_read}
use Rattle.fd_derived.proofs.above.sizes_added.Goals as goal

pub returns : goal.returns
returns c =
    let coefficients = c.args.coefficients.now in
    let left = c.args.left.now in
    let i = c.args.row in
    let read = row_read c.args.rows.now i c.index-rows-row.result c.requires.row c.index-rows-row.is in
    let equations = ap entries_of c.deref.ensures.value ∙ sym (ap (λ (r : DerivedRow). r.equations) read) in
    let others = ap entries_of c.deref-2.ensures.value ∙ sym (ap (λ (r : DerivedRow). r.others) read) in
    sizes c.args.equations.now c.args.rows.now i c.requires.placed coefficients left c.plus_weighted-size.result
    c.plus_weighted-more.result c.plus_product.result c.requires.coefficients c.requires.left c.requires.row
    (c.plus_weighted-size.ensures ∙ (λ k. capped (0 + weighted_size (equations k) (number_at coefficients))))
    (c.plus_weighted-more.ensures ∙ (λ k. capped (c.plus_weighted-size.result + weighted_size (others k) (number_at left))))
    c.plus_product.ensures
