use Rattle.std.proofs.Common.{◌<◌, ◌≤◌, length, nat_lt, arith, sym, rules}
use Rattle.std.proofs.lemmas.Bool.{le-ltb, lt-ltb}
use Rattle.fd_substitution.specs.fd_derived.fd_factors.fd_exact.FirstLaws.{first_none, first_some}
use Rattle.fd_substitution.specs.fd_derived.Rows.{number_at}
use Rattle.fd_bounds.proofs.Loops.{none_more}
use Rattle.fd_bounds.proofs.rising.first_risen.Goals as goal

pub loop-unknown-preserved : goal.loop-unknown-preserved
loop-unknown-preserved c =
    let k = c.loop-unknown.unknown in
    let low : number_at c.args.bounds.now k ≤ number_at c.args.raised.now k = search rules in
    none_more (λ j. nat_lt (number_at c.args.raised.now j) (number_at c.args.bounds.now j)) k c.loop-unknown.invariant
    (le-ltb (number_at c.args.raised.now k) (number_at c.args.bounds.now k) low)

pub returns-then-bounds-unknown : goal.returns-then-bounds-unknown
returns-then-bounds-unknown c =
    let k = c.loop-unknown.unknown in
    let k_in : k < length c.args.bounds.now = search rules in
    let high : number_at c.args.raised.now k < number_at c.args.bounds.now k = search rules in
    sym (first_some (λ j. nat_lt (number_at c.args.raised.now j) (number_at c.args.bounds.now j)) (length c.args.bounds.now) k k_in
    c.loop-unknown.invariant (lt-ltb (number_at c.args.raised.now k) (number_at c.args.bounds.now k) high))

pub returns : goal.returns
returns c =
    sym (first_none (λ j. nat_lt (number_at c.args.raised.now j) (number_at c.args.bounds.now j)) (length c.args.bounds.now)
    (λ k l. c.loop-unknown.invariant k (omega (arith, l, c.loop-unknown-test.false))))
