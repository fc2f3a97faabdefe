use Rattle.fd_exact.proofs.Signs.{dividend_fits, signed, opposite_signed, negative_value, negative_most, negative_least, negative_sign, positive_value, positive_most, positive_least, positive_sign}
use Rattle.fd_exact.proofs.rounding.near_quotient.Goals as goal

pub near_size-size-requires-clause-size_fits : goal.near_size-size-requires-clause-size_fits
near_size-size-requires-clause-size_fits c =
    dividend_fits _ _ 0 c.ranges.n c.unsigned_abs.ensures.value c.requires.size_fits

pub overflow_cast-result : goal.overflow_cast-result
overflow_cast-result c =
    signed _ _ _ c.ranges.n c.unsigned_abs.ensures.value c.requires.size_fits c.near_size-size.ensures.fits

pub overflow_sub-result : goal.overflow_sub-result
overflow_sub-result c =
    opposite_signed _ _ _ c.ranges.n c.unsigned_abs.ensures.value c.requires.size_fits c.near_size-size.ensures.fits

pub overflow_cast-result-else-n-lt0 : goal.overflow_cast-result-else-n-lt0
overflow_cast-result-else-n-lt0 c =
    signed _ _ _ c.ranges.n c.unsigned_abs.ensures.value c.requires.size_fits c.near_size-size.ensures.fits

pub returns-then-n-lt0-clause-value : goal.returns-then-n-lt0-clause-value
returns-then-n-lt0-clause-value c =
    negative_value _ _ _ c.ranges.n c.unsigned_abs.ensures.value c.requires.size_fits c.near_size-size.ensures.fits _
    c.near_size-size.ensures.value c.if-n-lt0.true

pub returns-then-n-lt0-clause-most : goal.returns-then-n-lt0-clause-most
returns-then-n-lt0-clause-most c =
    negative_most _ _ _ c.ranges.n c.unsigned_abs.ensures.value c.requires.size_fits c.near_size-size.ensures.fits _
    c.near_size-size.ensures.most

pub returns-then-n-lt0-clause-least : goal.returns-then-n-lt0-clause-least
returns-then-n-lt0-clause-least c =
    negative_least _ _ _ c.ranges.n c.unsigned_abs.ensures.value c.requires.size_fits c.near_size-size.ensures.fits _
    c.near_size-size.ensures.least

pub returns-then-n-lt0-clause-sign : goal.returns-then-n-lt0-clause-sign
returns-then-n-lt0-clause-sign c =
    negative_sign _ _ _ c.ranges.n c.unsigned_abs.ensures.value c.requires.size_fits c.near_size-size.ensures.fits
    c.if-n-lt0.true

pub returns-else-n-lt0-clause-value : goal.returns-else-n-lt0-clause-value
returns-else-n-lt0-clause-value c =
    positive_value _ _ _ c.ranges.n c.unsigned_abs.ensures.value c.requires.size_fits c.near_size-size.ensures.fits _
    c.near_size-size.ensures.value c.if-n-lt0.false

pub returns-else-n-lt0-clause-most : goal.returns-else-n-lt0-clause-most
returns-else-n-lt0-clause-most c =
    positive_most _ _ _ c.ranges.n c.unsigned_abs.ensures.value c.requires.size_fits c.near_size-size.ensures.fits _
    c.near_size-size.ensures.most

pub returns-else-n-lt0-clause-least : goal.returns-else-n-lt0-clause-least
returns-else-n-lt0-clause-least c =
    positive_least _ _ _ c.ranges.n c.unsigned_abs.ensures.value c.requires.size_fits c.near_size-size.ensures.fits _
    c.near_size-size.ensures.least

pub returns-else-n-lt0-clause-sign : goal.returns-else-n-lt0-clause-sign
returns-else-n-lt0-clause-sign c = λ u.
    positive_sign _ _ _ c.ranges.n c.unsigned_abs.ensures.value c.requires.size_fits c.near_size-size.ensures.fits
