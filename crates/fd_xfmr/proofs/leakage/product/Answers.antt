use Rattle.std.specs.Int.{w128}
use Rattle.std.proofs.lemmas.Int.{to_z-of_z}
use Rattle.fd_xfmr.proofs.Products.{code_fits, code_is, code_most, shown}
use Rattle.fd_xfmr.proofs.leakage.product.Goals as goal

pub overflow_mul-result : goal.overflow_mul-result
overflow_mul-result c =
    code_fits c.args.n _ _ c.args.factor (to_z-of_z w128 c.args.n c.ranges.n) (shown c.args.factor c.requires.factor)
    c.requires.n c.requires.factor

pub returns-clause-value : goal.returns-clause-value
returns-clause-value c =
    code_is c.args.n _ _ c.args.factor (to_z-of_z w128 c.args.n c.ranges.n) (shown c.args.factor c.requires.factor)
    c.requires.n c.requires.factor

pub returns-clause-within : goal.returns-clause-within
returns-clause-within c =
    code_most c.args.n _ _ c.args.factor (to_z-of_z w128 c.args.n c.ranges.n) (shown c.args.factor c.requires.factor)
    c.requires.n c.requires.factor
