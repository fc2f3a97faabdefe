use Rattle.std.proofs.Common.{nat_lt, length, sym, arith}
use Rattle.fd_enclosure.specs.fd_exact.FirstLaws.{first_none, first_some}
use Rattle.fd_enclosure.specs.Sound.{greatest_mismatch, number_at}
use Rattle.fd_cert.proofs.Verdict.{is_past, not_past}
use Rattle.fd_cert.proofs.mismatches.first_loose.Goals as goal

pub returns-then-mismatch-row-gt-GREATEST_MISMATCH-clause-first : goal.returns-then-mismatch-row-gt-GREATEST_MISMATCH-clause-first
returns-then-mismatch-row-gt-GREATEST_MISMATCH-clause-first c =
    sym (first_some (λ l. nat_lt greatest_mismatch (number_at c.args.mismatch.now l)) _ c.loop-row.row
    c.loop-row-test.true
    (λ j l. not_past greatest_mismatch (number_at c.args.mismatch.now j) (c.loop-row.invariant j l))
    (is_past greatest_mismatch (number_at c.args.mismatch.now c.loop-row.row)
    c.if-mismatch-row-gt-GREATEST_MISMATCH.true))

pub returns-clause-first : goal.returns-clause-first
returns-clause-first c =
    sym (first_none (λ l. nat_lt greatest_mismatch (number_at c.args.mismatch.now l)) (length c.args.mismatch.now)
    (λ j l. not_past greatest_mismatch (number_at c.args.mismatch.now j) (c.loop-row.invariant j (omega arith))))
