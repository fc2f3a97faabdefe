use Rattle.std.proofs.Common.{◌^◌, nat_lt, length, sym, arith}
use Rattle.fd_enclosure.specs.fd_exact.FirstLaws.{first_none, first_some}
use Rattle.fd_enclosure.specs.Sound.{number_at}
use Rattle.fd_cert.proofs.Verdict.{is_past, not_past}
use Rattle.fd_cert.proofs.reach.first_wide.Goals as goal

pub returns-then-radii-place-gt-RADIUS_LIMIT-clause-first : goal.returns-then-radii-place-gt-RADIUS_LIMIT-clause-first
returns-then-radii-place-gt-RADIUS_LIMIT-clause-first c =
    sym (first_some (λ i. nat_lt (2 ^ 40) (number_at c.args.radii.now i)) _ c.loop-place.place c.loop-place-test.true
    (λ j l. not_past (2 ^ 40) (number_at c.args.radii.now j) (c.loop-place.invariant j l))
    (is_past (2 ^ 40) (number_at c.args.radii.now c.loop-place.place) c.if-radii-place-gt-RADIUS_LIMIT.true))

pub returns-clause-first : goal.returns-clause-first
returns-clause-first c =
    sym (first_none (λ i. nat_lt (2 ^ 40) (number_at c.args.radii.now i)) (length c.args.radii.now) (λ j l.
    not_past (2 ^ 40) (number_at c.args.radii.now j) (c.loop-place.invariant j (omega arith))))
