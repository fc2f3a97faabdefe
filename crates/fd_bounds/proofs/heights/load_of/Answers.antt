use Rattle.std.proofs.Common.{◌≡◌, ◌∙◌, ℕ, ◌*◌, ◌<◌, ℤ, nat_abs, length, List, ap, subst, sym}
use Rattle.std.proofs.lemmas.List.{get_or-map}
use Rattle.fd_substitution.specs.fd_derived.fd_factors.Factors.{DerivedRow, weighted_size}
use Rattle.fd_substitution.specs.fd_derived.Rows.{entries_of, number_at, row_defect}
use Rattle.fd_substitution.specs.fd_derived.fd_factors.fd_exact.Sums.{sum_n}
use Rattle.fd_substitution.proofs.CallerLemmas.fd_derived.{row_read}
use Rattle.fd_bounds.specs.Defects.{defects_at, sizes_of, weighed}
use Rattle.fd_bounds.specs.declared.defects.Defect.{Defect}
use Rattle.fd_bounds.proofs.Loops.{names_exist}
use Rattle.fd_bounds.proofs.Sizes.{load_found, three}
use Rattle.fd_bounds.proofs.heights.load_of.Goals as goal

pub returns : goal.returns
returns c =
    let es = c.args.equations.now in
    let rows = c.args.rows.now in
    let t = c.args.row in
    let bs = number_at c.args.bounds.now in
    let hs = number_at c.args.heights.now in
    let A = c.args.allowed.now in
    let lists = c.args.defects.now in
    let D = c.index-defects-row.result in
    let read = row_read rows t c.index-rows-row.result c.requires.row c.index-rows-row.is in
    let equations = ap (λ (r : DerivedRow). r.equations) read ∙ ap entries_of (sym c.deref.ensures.value) in
    let others = ap (λ (r : DerivedRow). r.others) read ∙ ap entries_of (sym c.deref-3.ensures.value) in
    let t_in : t < length lists = subst (λ n. t < n) (sym c.requires.defects.long) c.requires.row in
    let at : defects_at lists t ≡ c.deref-2.result.now =
    get_or-map sizes_of lists t D _ t_in ∙ sym c.deref-2.ensures.value in
    let made = subst (λ (ds : List Defect). (r : ℕ → ℕ) → weighed ds r ≡ sum_n (λ j. nat_abs (row_defect es rows t j) * r j) (length es)) at (c.requires.defects.each t c.requires.row) in
    load_found es rows bs hs A t _ _ _ c.plus_weighted.result c.deref-2.result.now (names_exist es rows c.requires.order t c.requires.row).equations
    c.requires.allowed made
    (three _ _ _ c.plus_weighted-own.result c.plus_defects-slack.result c.plus_weighted.result c.plus_weighted-own.ensures c.plus_defects-slack.ensures
    c.plus_weighted.ensures)
    (ap (λ (r : List (ℕ × ℤ)). weighted_size r (number_at A)) (sym equations))
    (λ i. weighed c.deref-2.result.now bs)
    (ap (λ (r : List (ℕ × ℤ)). weighted_size r hs) (sym others))
