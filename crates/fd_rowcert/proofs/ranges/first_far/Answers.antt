use Rattle.std.proofs.Common.{◌≡◌, ◌∙◌, ◌<◌, length, arith, sym, true, FitsSigned, rules}
use Rattle.std.specs.Int.{w128}
use Rattle.std.proofs.lemmas.Int.{to_z-of_z}
use Rattle.fd_cert.specs.fd_enclosure.Sound.{number_at}
use Rattle.fd_cert.specs.fd_enclosure.fd_exact.FirstLaws.{first_none, first_some}
use Rattle.fd_cert.specs.fd_enclosure.fd_exact.States.{part}
use Rattle.fd_rowcert.specs.Rechecks.{is_far, is_far_at}
use Rattle.fd_rowcert.proofs.ranges.first_far.Goals as goal

pub returns-then-is_far : goal.returns-then-is_far
returns-then-is_far c =
    let k = c.loop-place.place in
    let k_in : k < length c.args.centre.now = search rules in
    let fits : FitsSigned w128 (part c.args.centre.now k) = search rules in
    let is : c.is_far.result ≡ is_far (part c.args.centre.now k)
    (number_at c.args.radius.now k) = simp to_z-of_z at c.is_far.ensures in
    let tested : is_far_at c.args.centre.now c.args.radius.now k ≡ true = sym is ∙ c.if-is_far.true in
    sym (first_some (is_far_at c.args.centre.now c.args.radius.now)
    (length c.args.centre.now) k k_in c.loop-place.invariant tested)

pub returns : goal.returns
returns c =
    sym (first_none (is_far_at c.args.centre.now c.args.radius.now) (length c.args.centre.now)
    (λ k l. c.loop-place.invariant k (omega (arith, l, c.loop-place-test.false))))
