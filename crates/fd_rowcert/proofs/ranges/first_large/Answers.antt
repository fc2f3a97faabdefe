use Rattle.std.proofs.Common.{◌≡◌, ◌∙◌, ◌<◌, length, arith, sym, true, rules}
use Rattle.fd_cert.specs.fd_enclosure.fd_exact.FirstLaws.{first_none, first_some}
use Rattle.fd_rowcert.specs.Rechecks.{is_large_at}
use Rattle.fd_rowcert.proofs.Found.{large_at}
use Rattle.fd_rowcert.proofs.ranges.first_large.Goals as goal

pub returns-then-is_large : goal.returns-then-is_large
returns-then-is_large c =
    let k = c.loop-row.row in
    let k_in : k < length c.args.claim.now.rows.items = search rules in
    let at = large_at c.args.claim.now.heights.items c.args.claim.now.rows.items k c.index.result.now
    c.index-in-loop-row.result.now
    (omega (arith, k_in, c.requires)) k_in c.index.ensures c.index-in-loop-row.ensures in
    let tested : is_large_at c.args.claim.now k ≡ true = sym at ∙ sym c.is_large.ensures ∙ c.if-is_large.true in
    sym (first_some (is_large_at c.args.claim.now)
    (length c.args.claim.now.rows.items) k k_in c.loop-row.invariant tested)

pub returns : goal.returns
returns c =
    sym (first_none (is_large_at c.args.claim.now) (length c.args.claim.now.rows.items)
    (λ k l. c.loop-row.invariant k (omega (arith, l, c.loop-row-test.false))))
