use Rattle.std.proofs.Common.{◌∙◌, ◌+◌, ◌<◌, nat_abs, List, ℕ, ℤ, ap, subst, sym}
use Rattle.fd_substitution.specs.fd_derived.fd_factors.Factors.{DerivedRow, weighted_size}
use Rattle.fd_substitution.specs.fd_derived.Rows.{entries_of, number_at}
use Rattle.fd_substitution.proofs.CallerLemmas.fd_derived.{row_there}
use Rattle.fd_bounds.specs.Passes.{bound_unless_wide}
use Rattle.fd_bounds.specs.Rows.{pivot_of, rest_of}
use Rattle.fd_bounds.proofs.widths.bound_at.Goals as goal

pub bound_of-requires : goal.bound_of-requires
bound_of-requires c =
    let read = row_there c.args.rows.now c.args.row c.index-rows-row.result c.requires.row in
    let left = ap (λ (r : DerivedRow). r.left) read ∙ ap entries_of (sym c.deref.ensures.value) in
    subst (λ (l : List (ℕ × ℤ)). 0 < nat_abs (pivot_of l).1) left c.requires.pivot

pub returns : goal.returns
returns c =
    let read = row_there c.args.rows.now c.args.row c.index-rows-row.result c.requires.row in
    let left = ap (λ (r : DerivedRow). r.left) read ∙ ap entries_of (sym c.deref.ensures.value) in
    c.bound_of.ensures
    ∙ ap (λ (l : List (ℕ × ℤ)). bound_unless_wide (weighted_size (rest_of l) (number_at c.args.bounds.now) + number_at c.args.heights.now c.args.row)
    (nat_abs (pivot_of l).1)) (sym left)
