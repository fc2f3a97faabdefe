use Rattle.std.proofs.Common.{◌∙◌, ap, arith}
use Rattle.fd_equations.specs.Amounts.{amount, cell_at, more}
use Rattle.fd_equations.proofs.Growth.{grown_term, missed_term}
use Rattle.fd_equations.proofs.Sizes.{kept_by, small_size}
use Rattle.fd_equations.proofs.cells.add_term.Goals as goal

pub returns-in-Some : goal.returns-in-Some
returns-in-Some c =
    let kept = kept_by c.units.result (omega (arith, small_size c.units.result c.units.ensures.within)) in
    grown_term c.args.pattern.now.places c.args.cells.now c.args.term.now c.in-Some.k c.with_term.result
    c.requires.long c.in-Some.ensures.some c.in-Some.ensures.only
    (c.with_term.ensures
    ∙ ap (λ z. more (cell_at c.args.cells.now c.in-Some.k) (amount z 1 0)) (kept ∙ c.units.ensures.units))

pub returns-in_default : goal.returns-in_default
returns-in_default c = missed_term c.args.pattern.now.places c.args.cells.now c.args.term.now c.in_default.ensures.none
