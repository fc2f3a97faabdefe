use Rattle.std.proofs.Common.{length, get_or, pos, sym, subst, arith, ◌+◌}
use Rattle.std.proofs.lemmas.List.Elements.{All-get_or}
use Rattle.fd_pattern.specs.Conditions.{IsKnown}
use Rattle.fd_equations.proofs.Folds.{SumsTo, sums_start, sums_more, sums_end}
use Rattle.fd_equations.proofs.constants.add_all.Goals as goal

pub loop-constant-init : goal.loop-constant-init
loop-constant-init c = sums_start c.args.rows.now c.args.constants.now c.requires.zero

pub add_to-requires : goal.add_to-requires
add_to-requires c =
    let h = c.loop-constant.invariant in
    record {
      known = subst (λ n.
          IsKnown n (get_or c.args.constants.now c.loop-constant.constant-index (record { row = 0; value = pos 0 })))
          (sym h.long)
          (All-get_or (IsKnown (length c.args.rows.now)) c.args.constants.now c.loop-constant.constant-index
          (record { row = 0; value = pos 0 }) c.loop-constant-test.true c.requires.known);
      room = λ row. let s = h.small row in let few = c.requires.few in let t = c.loop-constant-test.true in omega arith;
    }

pub loop-constant-preserved : goal.loop-constant-preserved
loop-constant-preserved c =
    let r =
    sums_more c.loop-constant.rows c.args.constants.now (length c.args.rows.now) c.loop-constant.constant-index
    (record { row = 0; value = pos 0 }) c.loop-constant-test.true c.requires.known c.loop-constant.invariant in
    subst (λ rows. SumsTo rows c.args.constants.now (length c.args.rows.now) (c.loop-constant.constant-index + 1)) (sym c.add_to.ensures) r

pub returns : goal.returns
returns c =
    sums_end c.loop-constant.rows c.args.constants.now (length c.args.rows.now) c.loop-constant.constant-index
    c.loop-constant-test.false c.loop-constant.invariant
