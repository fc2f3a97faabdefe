use Rattle.std.proofs.Common.{◌≡◌, ◌∙◌, ℕ, ◌+◌, ◌*◌, ◌^◌, ◌<◌, ltb, List, length, ap, subst, sym}
use Rattle.std.proofs.lemmas.List.{get_or_read}
use Rattle.fd_factors.specs.Factors.{DerivedRow, weighted_size}
use Rattle.fd_factors.specs.fd_exact.States.{part}
use Rattle.fd_derived.specs.Rows.{entries_of, number_at, row_defect}
use Rattle.fd_derived.specs.declared.entries.Row.{Row}
use Rattle.fd_derived.specs.Sums.{capped, spread}
use Rattle.fd_derived.proofs.Loads.{loads, stands_above}
use Rattle.fd_derived.proofs.Rows.{row_read}
use Rattle.fd_derived.proofs.above.is_above.Goals as goal

pub returns-clause-above : goal.returns-clause-above
returns-clause-above c =
    let es = c.args.equations.now in
    let claim = c.args.claim.now in
    let lists = c.args.lists.now in
    let i = c.args.row in
    let sums = c.add_defects.new.sums in
    let n = length c.args.sums.now in
    let long = c.in_ok-add_defects.ensures.long in
    let read = row_read claim.rows.items i c.index-derived.result.now c.requires.row c.index-derived.ensures in
    let equations = ap entries_of c.deref.ensures.value ∙ sym (ap (λ (r : DerivedRow). r.equations) read) in
    let others = ap entries_of c.deref-6.ensures.value ∙ sym (ap (λ (r : DerivedRow). r.others) read) in
    let defects = subst (λ (rs : List Row). (j : ℕ) → j < n → part c.add_defects.new.sums j ≡ row_defect es rs i j) c.deref-3.ensures.value
    c.in_ok-add_defects.ensures.defects in
    let load = loads es claim i c.requires.placed lists.allowances.items sums n c.plus_weighted-own.result c.drain-slack.result
    c.plus_weighted-load.result c.requires.lists.allowances c.requires.long defects
    (c.plus_weighted-own.ensures ∙ (λ k. capped (0 + weighted_size (equations k) (number_at (c.deref-2.ensures.value k)))))
    (c.drain-slack.ensures.total ∙ (λ k. capped (c.plus_weighted-own.result + spread sums (c.deref-5.ensures.value k) (long k))))
    (c.plus_weighted-load.ensures ∙ (λ k. capped (c.drain-slack.result + weighted_size (others k) (number_at (c.deref-7.ensures.value k))))) in
    let i_in : i < length claim.heights.items = subst (λ k. i < k) (sym c.requires.heights) c.requires.row in
    ap (λ x. ltb c.plus_weighted-load.result (2 ^ 40 * x)) (get_or_read claim.heights.items i c.index.result.now i_in c.index.ensures 0)
    ∙ stands_above es claim i c.requires.placed c.plus_weighted-load.result load c.requires.height
