use Rattle.std.proofs.Common.{◌∙◌, ◌<◌, arith, sym, rules}
use Rattle.fd_derived.specs.Refusals.{row_refusal}
use Rattle.fd_derived.specs.Rows.{number_of_rows}
use Rattle.fd_derived.proofs.Found.{found_at, found_none}
use Rattle.fd_derived.proofs.checking.rows_refusal.Goals as goal

pub returns-then-is_some : goal.returns-then-is_some
returns-then-is_some c =
    let k_in : c.loop-row.row < number_of_rows c.args.claim.now = search rules in
    found_at (row_refusal c.args.equations.now c.args.claim.now) (number_of_rows c.args.claim.now) c.loop-row.row c.in_ok-refusal.refusal k_in c.loop-row.invariant.none c.in_ok-refusal.ensures.refusal (sym c.is_some.ensures ∙ c.if-is_some.true)

pub returns : goal.returns
returns c = sym (found_none (row_refusal c.args.equations.now c.args.claim.now) (number_of_rows c.args.claim.now) (λ k l. c.loop-row.invariant.none k (omega (arith, l, c.loop-row-test.false, c.len-row-end.ensures))))
