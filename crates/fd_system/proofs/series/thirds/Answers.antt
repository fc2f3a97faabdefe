use Rattle.std.proofs.Common.{◌∙◌, pos, ◌+ℤ◌, ◌-ℤ◌, ◌*ℤ◌, cond, ap, sym}
use Rattle.std.proofs.lemmas.Bool.{eq-eqb, ne_eqb}
use Rattle.fd_system.proofs.ThreeTimes.{double_signed, sum_signed, sum_is, sum_least, sum_most, difference_signed, difference_is, difference_least, difference_most}
use Rattle.fd_system.proofs.series.thirds.Goals as goal

pub overflow_mul-result : goal.overflow_mul-result
overflow_mul-result c = double_signed _ _ c.requires.z1 c.requires.z0

pub overflow_add-result : goal.overflow_add-result
overflow_add-result c = sum_signed _ _ c.requires.z1 c.requires.z0

pub overflow_sub-result : goal.overflow_sub-result
overflow_sub-result c = difference_signed _ _ c.requires.z1 c.requires.z0

pub returns-then-k-m-clause-value : goal.returns-then-k-m-clause-value
returns-then-k-m-clause-value c =
    sum_is _ _ c.requires.z1 c.requires.z0
    ∙ sym (ap (λ on. cond on (pos 2 *ℤ c.args.z1 +ℤ c.args.z0) (c.args.z0 -ℤ c.args.z1)) (eq-eqb _ _ c.if-k-m.true))

pub returns-then-k-m-clause-least : goal.returns-then-k-m-clause-least
returns-then-k-m-clause-least c =
    rw (sum_is _ _ c.requires.z1 c.requires.z0) (sum_least _ _ c.requires.z1 c.requires.z0)

pub returns-then-k-m-clause-most : goal.returns-then-k-m-clause-most
returns-then-k-m-clause-most c =
    rw (sum_is _ _ c.requires.z1 c.requires.z0) (sum_most _ _ c.requires.z1 c.requires.z0)

pub returns-else-k-m-clause-value : goal.returns-else-k-m-clause-value
returns-else-k-m-clause-value c =
    difference_is _ _ c.requires.z1 c.requires.z0
    ∙ sym (ap (λ on. cond on (pos 2 *ℤ c.args.z1 +ℤ c.args.z0) (c.args.z0 -ℤ c.args.z1)) (ne_eqb _ _ c.if-k-m.false))

pub returns-else-k-m-clause-least : goal.returns-else-k-m-clause-least
returns-else-k-m-clause-least c =
    rw (difference_is _ _ c.requires.z1 c.requires.z0) (difference_least _ _ c.requires.z1 c.requires.z0)

pub returns-else-k-m-clause-most : goal.returns-else-k-m-clause-most
returns-else-k-m-clause-most c =
    rw (difference_is _ _ c.requires.z1 c.requires.z0) (difference_most _ _ c.requires.z1 c.requires.z0)
