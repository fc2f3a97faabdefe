use Rattle.std.proofs.Common.{arith, ap, Ok, ◌∙◌, sym, w64, to_z, of_z}
use Rattle.std.specs.Int.{w128}
use Rattle.std.proofs.lemmas.Int.{ints}
use Rattle.fd_exact.specs.Rounding.{near_div}
use Rattle.dss_lexer.specs.Postfix.{exact}
use Rattle.dss_lexer.proofs.Stacks.{product_fits, product_kept, product_kept_size, quotient_same}
use Rattle.dss_lexer.proofs.expressions.exact_result.Goals as goal

pub overflow_add-result : goal.overflow_add-result
overflow_add-result c = omega (arith, ints)

pub overflow_sub-result : goal.overflow_sub-result
overflow_sub-result c = omega (arith, ints)

pub near_quotient-requires-clause-positive : goal.near_quotient-requires-clause-positive
near_quotient-requires-clause-positive c = omega arith

pub near_quotient-requires-clause-divisor_fits : goal.near_quotient-requires-clause-divisor_fits
near_quotient-requires-clause-divisor_fits c = omega arith

pub returns-in-Add : goal.returns-in-Add
returns-in-Add c = rw c.in-Add.is (ap Ok (omega (arith, ints)))

pub returns-in-Subtract : goal.returns-in-Subtract
returns-in-Subtract c = rw c.in-Subtract.is (ap Ok (omega (arith, ints)))

pub returns-in-Divide : goal.returns-in-Divide
returns-in-Divide c =
    c.divided.ensures
    ∙ quotient_same (to_z w64 (of_z w64 c.args.left)) (to_z w64 (of_z w64 c.args.right)) c.args.left c.args.right
    (omega (arith, ints)) (omega (arith, ints))
    ∙ sym (ap (λ o. exact o c.args.left c.args.right) c.in-Divide.is)

pub overflow_mul-from : goal.overflow_mul-from
overflow_mul-from c =
    product_fits (to_z w128 (of_z w128 c.from-in-Multiply.result)) (to_z w128 (of_z w128 c.from-in-Multiply-2.result))
    c.args.left c.args.right (omega (arith, ints)) (omega (arith, ints)) c.ranges.left c.ranges.right

pub near_quotient-requires-clause-size_fits : goal.near_quotient-requires-clause-size_fits
near_quotient-requires-clause-size_fits c =
    product_kept_size (to_z w128 (of_z w128 c.from-in-Multiply.result))
    (to_z w128 (of_z w128 c.from-in-Multiply-2.result)) c.args.left c.args.right (omega (arith, ints))
    (omega (arith, ints)) c.ranges.left c.ranges.right

pub returns-in-Multiply : goal.returns-in-Multiply
returns-in-Multiply c =
    rw c.in-Multiply.is (ap Ok (omega (arith, ints) ∙ c.near_quotient.ensures.value
    ∙ ap (λ z. near_div z 1_000_000_000) (product_kept (to_z w128 (of_z w128 c.from-in-Multiply.result))
    (to_z w128 (of_z w128 c.from-in-Multiply-2.result)) c.args.left c.args.right (omega (arith, ints))
    (omega (arith, ints)) c.ranges.left c.ranges.right)))
