use Rattle.std.proofs.Common.{◌∙◌, ap, pos, ◌*ℤ◌, sym}
use Rattle.fd_exact.specs.Rounding.{with_sign}
use Rattle.dss_lexer.proofs.Scaled.{sign_is, scaled_signed, scaled_held, scaled_size, opposite_signed, opposite_held, opposite_size}
use Rattle.dss_lexer.proofs.expressions.dividend.Goals as goal

pub overflow_mul-scaled : goal.overflow_mul-scaled
overflow_mul-scaled c = scaled_signed _ _ c.ranges.left c.from-scaled.ensures

pub overflow_sub-result : goal.overflow_sub-result
overflow_sub-result c = opposite_signed _ _ c.ranges.left c.from-scaled.ensures

pub returns-then-right-lt0-clause-value : goal.returns-then-right-lt0-clause-value
returns-then-right-lt0-clause-value c =
    opposite_held _ _ c.ranges.left c.from-scaled.ensures
    ∙ ap (λ below. with_sign below (c.args.left *ℤ pos 1_000_000_000))
    (sym c.if-right-lt0.true ∙ sign_is _ c.ranges.right)

pub returns-then-right-lt0-clause-size : goal.returns-then-right-lt0-clause-size
returns-then-right-lt0-clause-size c = opposite_size _ _ c.ranges.left c.from-scaled.ensures

pub returns-else-right-lt0-clause-value : goal.returns-else-right-lt0-clause-value
returns-else-right-lt0-clause-value c =
    scaled_held _ _ c.ranges.left c.from-scaled.ensures
    ∙ ap (λ below. with_sign below (c.args.left *ℤ pos 1_000_000_000))
    (sym c.if-right-lt0.false ∙ sign_is _ c.ranges.right)

pub returns-else-right-lt0-clause-size : goal.returns-else-right-lt0-clause-size
returns-else-right-lt0-clause-size c = scaled_size _ _ c.ranges.left c.from-scaled.ensures
