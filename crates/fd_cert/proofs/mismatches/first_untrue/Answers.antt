use Rattle.std.proofs.Common.{length, sym, arith, ◌∙◌}
use Rattle.fd_enclosure.specs.fd_exact.FirstLaws.{first_none, first_some}
use Rattle.fd_enclosure.specs.Sound.{number_at}
use Rattle.fd_cert.specs.Rechecks.{is_untrue}
use Rattle.fd_cert.proofs.mismatches.first_untrue.Goals as goal

pub returns-then-is_untrue : goal.returns-then-is_untrue
returns-then-is_untrue c =
    sym (first_some (λ l. is_untrue (number_at c.args.own.now l) (number_at c.args.claimed.now l))
    (length c.args.own.now) c.loop-row.row c.loop-row-test.true c.loop-row.invariant
    (sym c.is_untrue.ensures ∙ c.if-is_untrue.true))

pub returns : goal.returns
returns c =
    sym (first_none (λ l. is_untrue (number_at c.args.own.now l) (number_at c.args.claimed.now l))
    (length c.args.own.now) (λ k l. c.loop-row.invariant k (omega (arith, l, c.loop-row-test.false))))
