use Rattle.std.proofs.Common.{subst}
use Rattle.std.proofs.lemmas.List.{take_all}
use Rattle.std.proofs.lemmas.List.Elements.{All-get_or}
use Rattle.fd_equations.specs.Amounts.{AreCells, of_terms}
use Rattle.fd_pattern.specs.Conditions.{IsLinear}
use Rattle.fd_equations.proofs.Growth.{cells_room, cells_then, no_term, terms_more}
use Rattle.fd_equations.proofs.cells.add_terms.Goals as goal

pub loop-term-init : goal.loop-term-init
loop-term-init c = c.requires.cells

pub add_term-requires : goal.add_term-requires
add_term-requires c =
    let is = All-get_or (IsLinear c.args.pattern.now.size) c.args.terms.now c.loop-term.term-index no_term c.loop-term-test.true c.requires.linear.each in
    record {
      long = c.loop-term.invariant.long;
      divided = record { positive = is.term.positive; most = is.term.most };
      within = is.within;
      room = cells_room c.args.pattern.now.places c.loop-term.cells c.args.pattern.now.size c.args.terms.now
          c.loop-term.term-index c.requires.linear c.loop-term.invariant;
    }

pub loop-term-preserved : goal.loop-term-preserved
loop-term-preserved c =
    cells_then c.args.pattern.now.places c.loop-term.cells c.add_term.new.cells _ _ _ c.loop-term.invariant
    c.add_term.auto.cells c.add_term.ensures
    (terms_more c.args.terms.now c.loop-term.term-index no_term c.loop-term-test.true)

pub returns : goal.returns
returns c =
    subst (λ ts. AreCells c.args.pattern.now.places c.loop-term.cells (of_terms ts))
    (take_all c.loop-term.term-index c.args.terms.now c.loop-term-test.false) c.loop-term.invariant
