use Rattle.std.proofs.Common.{◌-◌, length, arith}
use Rattle.std.proofs.lemmas.Bool.Decides.{nat_tests}
use Rattle.fd_pattern.proofs.Order.{contains_at}
use Rattle.fd_pattern.proofs.pattern.is_new.Goals as goal

pub returns-else-last-place-clause-no : goal.returns-else-last-place-clause-no
returns-else-last-place-clause-no c = λ e.
    let item = c.in-Some.ensures.item.3 in
    contains_at c.args.kept.now (length c.args.kept.now - 1) c.args.place.now c.in-Some.last.now
    (omega (arith, item.0)) (item.1 c.args.place.now) (grind (arith, nat_tests)) (grind (arith, nat_tests, e))
