use Rattle.std.proofs.Common.{◌≡◌, ◌∙◌, ◌^◌, nat_abs, nat_lt, arith, sym, true}
use Rattle.fd_bounds.specs.fd_triangles.Rows.{entry_at}
use Rattle.fd_rowcert.proofs.Found.{none_large, one_large}
use Rattle.fd_rowcert.proofs.ranges.has_large.Goals as goal

pub returns-then-is_large_entry : goal.returns-then-is_large_entry
returns-then-is_large_entry c =
    let k = c.loop-entry.entry-index in
    let u = (entry_at c.args.entries.now k).units in
    let tested : nat_lt (2 ^ 62) (nat_abs u) ≡ true = sym c.is_large_entry.ensures ∙ c.if-is_large_entry.true in
    sym (one_large c.args.entries.now k c.loop-entry-test.true tested)

pub returns : goal.returns
returns c = sym (none_large c.args.entries.now (λ k l. c.loop-entry.invariant k (omega
    (arith, l, c.loop-entry-test.false))))
