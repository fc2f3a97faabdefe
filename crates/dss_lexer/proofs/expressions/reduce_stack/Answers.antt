use Rattle.std.proofs.Common.{sym, arith}
use Rattle.std.proofs.lemmas.Int.{ints}
use Rattle.std.proofs.lemmas.Result.{err_from_is_err_and}
use Rattle.dss_lexer.proofs.Stacks.{reduce_to, reduce_fault}
use Rattle.dss_lexer.proofs.expressions.reduce_stack.Goals as goal

pub returns-in_err-result_of : goal.returns-in_err-result_of
returns-in_err-result_of c =
    let p = err_from_is_err_and c.from_residual.result c.from_residual.ensures.1 in
    rw (p.1, p.2) (reduce_fault c.args.operator c.args.stack.now.items c.pop.new.self.items c.pop-2.new.self.items
    c.in-Some-pop.left c.in-Some.right c.in-Some.ensures.items c.in-Some-pop.ensures.items _ _
    c.in_err-result_of.field-0.0 (sym c.in_err-result_of.ensures) (omega (arith, ints)) (omega (arith, ints)))

pub returns : goal.returns
returns c =
    reduce_to c.args.operator c.args.stack.now.items c.pop.new.self.items c.pop-2.new.self.items c.in-Some-pop.left
    c.in-Some.right c.in-Some.ensures.items c.in-Some-pop.ensures.items _ _ c.push.new.self.items
    c.in_ok-result_of.field-0 _ (sym c.in_ok-result_of.ensures) c.in_ok-push.ensures.items (omega (arith, ints))
    (omega (arith, ints)) (omega (arith, ints))
