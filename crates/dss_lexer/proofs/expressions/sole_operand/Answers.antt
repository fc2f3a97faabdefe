use Rattle.std.proofs.Common.{◌∙◌, arith, ap, Ok}
use Rattle.std.proofs.lemmas.Int.{ints}
use Rattle.dss_lexer.proofs.Stacks.{sole_one, sole_none}
use Rattle.dss_lexer.proofs.expressions.sole_operand.Goals as goal

pub bounds-stack-0 : goal.bounds-stack-0
bounds-stack-0 c = c.in-len1.len_at_least

pub returns-in-len1 : goal.returns-in-len1
returns-in-len1 c = ap Ok (omega (arith, ints)) ∙ sole_one c.args.stack.now c.in-len1.len_at_least c.in-len1.len_below

pub returns-in_default : goal.returns-in_default
returns-in_default c = sole_none c.args.stack.now c.in_default.len_below
