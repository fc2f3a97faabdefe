use Rattle.std.proofs.Common.{◌≡◌, ◌∙◌, true, sym, rules}
use Rattle.fd_derived.specs.Refusals.{is_placed}
use Rattle.fd_derived.proofs.Rows.{row_read}
use Rattle.fd_derived.proofs.Whole.{row_is_placed}
use Rattle.fd_derived.proofs.above.row_refusal.Goals as goal

pub is_in_range-requires-clause-placed : goal.is_in_range-requires-clause-placed
is_in_range-requires-clause-placed c =
    let claim = c.args.claim.now in
    let read = row_read claim.rows.items c.args.row c.index.result.now c.requires.row c.index.ensures in
    let ok : c.is_placed.result ≡ true = search rules in
    row_is_placed c.args.equations.now claim c.args.row
    ((λ k. is_placed (sym c.requires.marks.equations_long k) (sym c.requires.marks.rows_long k) (read k)) ∙ sym c.is_placed.ensures.placed ∙ ok)

pub is_above-requires-clause-placed : goal.is_above-requires-clause-placed
is_above-requires-clause-placed c =
    let claim = c.args.claim.now in
    let read = row_read claim.rows.items c.args.row c.index.result.now c.requires.row c.index.ensures in
    let ok : c.is_placed.result ≡ true = search rules in
    row_is_placed c.args.equations.now claim c.args.row
    ((λ k. is_placed (sym c.requires.marks.equations_long k) (sym c.requires.marks.rows_long k) (read k)) ∙ sym c.is_placed.ensures.placed ∙ ok)
