use Rattle.std.proofs.Common.{nat_lt, length, sym, arith}
use Rattle.fd_enclosure.specs.fd_exact.FirstLaws.{first_none, first_some}
use Rattle.fd_enclosure.specs.Sound.{number_at}
use Rattle.fd_cert.proofs.Verdict.{is_past, not_past}
use Rattle.fd_cert.proofs.reach.first_narrow.Goals as goal

pub returns-then-claimed-place : goal.returns-then-claimed-place
returns-then-claimed-place c =
    sym (first_some (λ i. nat_lt (number_at c.args.claimed.now i) (number_at c.args.least.now i))
    (length c.args.least.now) c.loop-place.place c.loop-place-test.true
    (λ k l. not_past (number_at c.args.claimed.now k) (number_at c.args.least.now k) (c.loop-place.invariant k l))
    (is_past (number_at c.args.claimed.now c.loop-place.place) (number_at c.args.least.now c.loop-place.place)
    c.if-claimed-place.true))

pub returns : goal.returns
returns c = sym (first_none (λ i. nat_lt (number_at c.args.claimed.now i) (number_at c.args.least.now i)) (length c.args.least.now)
    (λ k l. not_past (number_at c.args.claimed.now k) (number_at c.args.least.now k) (c.loop-place.invariant k (omega (arith, l, c.loop-place-test.false)))))
