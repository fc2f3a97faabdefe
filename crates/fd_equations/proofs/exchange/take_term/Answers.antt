use Rattle.std.proofs.Common.{◌∙◌, ap, arith}
use Rattle.fd_equations.specs.Amounts.{amount, more}
use Rattle.fd_equations.proofs.Exchanging.{taken_term}
use Rattle.fd_equations.proofs.Sizes.{kept_by, small_size}
use Rattle.fd_equations.proofs.exchange.take_term.Goals as goal

pub returns-in-Some-clause-taken : goal.returns-in-Some-clause-taken
returns-in-Some-clause-taken c =
    let kept = kept_by c.units.result (omega (arith, small_size c.units.result c.units.ensures.within)) in
    taken_term c.args.pattern.now.places c.args.cells.now c.args.term.now c.in-Some.k c.without_term.result
    c.requires.long c.in-Some.ensures.some c.in-Some.ensures.only
    (c.without_term.ensures ∙ ap (λ z. more c.without_term.result (amount z 1 0)) (kept ∙ c.units.ensures.units))
