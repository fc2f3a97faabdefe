use Rattle.std.proofs.Common.{◌≡◌, ◌<◌, ◌^◌, nat_abs, nat_lt, is_some, length, sym, ap, subst, arith, FitsSigned, rules}
use Rattle.std.specs.Int.{w64}
use Rattle.std.proofs.lemmas.Int.{to_z-of_z}
use Rattle.fd_enclosure.specs.fd_exact.FirstLaws.{first_none, found}
use Rattle.fd_enclosure.specs.fd_exact.States.{part}
use Rattle.fd_cert.proofs.Verdict.{is_past, not_past}
use Rattle.fd_cert.proofs.range.has_wide_entry.Goals as goal

pub returns-then-unsigned_abs-gt-ENTRY_LIMIT : goal.returns-then-unsigned_abs-gt-ENTRY_LIMIT
returns-then-unsigned_abs-gt-ENTRY_LIMIT c =
    let fits : FitsSigned w64 (part c.args.row.now c.loop-col.col) = search rules in
    let size : c.unsigned_abs.result ≡ nat_abs (part c.args.row.now c.loop-col.col) = simp to_z-of_z at c.unsigned_abs.ensures.value in
    sym (found (λ col. nat_lt (2 ^ 56) (nat_abs (part c.args.row.now col))) (length c.args.row.now) c.loop-col.col c.loop-col-test.true
    (is_past (2 ^ 56) (nat_abs (part c.args.row.now c.loop-col.col)) (subst (λ n. 2 ^ 56 < n) size c.if-unsigned_abs-gt-ENTRY_LIMIT.true)))

pub returns : goal.returns
returns c =
    sym (ap is_some
    (first_none (λ col. nat_lt (2 ^ 56) (nat_abs (part c.args.row.now col))) (length c.args.row.now) (λ k l.
    not_past (2 ^ 56) (nat_abs (part c.args.row.now k))
    (c.loop-col.invariant k (omega (arith, l, c.loop-col-test.false))))))
