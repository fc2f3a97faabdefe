use Rattle.std.proofs.Common.{◌∙◌, ap, arith}
use Rattle.std.proofs.lemmas.Int.{to_z-of_z}
use Rattle.std.specs.Prelude.{nat_abs}
use Rattle.std.specs.Int.{w128}
use Rattle.fd_arith.proofs.Above.{by_high, by_equal, by_less}
use Rattle.fd_arith.proofs.short_circuit.is_above.Goals as goal

pub returns-then-high-least_high : goal.returns-then-high-least_high
returns-then-high-least_high c =
    by_high c.args.basekv c.args.mva c.unsigned_abs-volts.result c.unsigned_abs-power.result
    c.carrying_mul-low.result.0 c.carrying_mul-low.result.1 c.carrying_mul-least_low.result.0
    c.carrying_mul-least_low.result.1
    (c.unsigned_abs-volts.ensures.value ∙ ap nat_abs (to_z-of_z w128 c.args.basekv c.ranges.basekv))
    (c.unsigned_abs-power.ensures.value ∙ ap nat_abs (to_z-of_z w128 c.args.mva c.ranges.mva)) c.if-power-eq0.false
    (omega arith) (omega arith) (omega arith) (omega arith) c.if-high-least_high.true

pub returns-then-high-least_high-2 : goal.returns-then-high-least_high-2
returns-then-high-least_high-2 c =
    by_equal c.args.basekv c.args.mva c.unsigned_abs-volts.result c.unsigned_abs-power.result
    c.carrying_mul-low.result.0 c.carrying_mul-low.result.1 c.carrying_mul-least_low.result.0
    c.carrying_mul-least_low.result.1
    (c.unsigned_abs-volts.ensures.value ∙ ap nat_abs (to_z-of_z w128 c.args.basekv c.ranges.basekv))
    (c.unsigned_abs-power.ensures.value ∙ ap nat_abs (to_z-of_z w128 c.args.mva c.ranges.mva)) c.if-power-eq0.false
    (omega arith) (omega arith) (omega arith) (omega arith) c.if-high-least_high-2.true

pub returns-else-high-least_high-2 : goal.returns-else-high-least_high-2
returns-else-high-least_high-2 c =
    by_less c.args.basekv c.args.mva c.unsigned_abs-volts.result c.unsigned_abs-power.result
    c.carrying_mul-low.result.0 c.carrying_mul-low.result.1 c.carrying_mul-least_low.result.0
    c.carrying_mul-least_low.result.1
    (c.unsigned_abs-volts.ensures.value ∙ ap nat_abs (to_z-of_z w128 c.args.basekv c.ranges.basekv))
    (c.unsigned_abs-power.ensures.value ∙ ap nat_abs (to_z-of_z w128 c.args.mva c.ranges.mva)) c.if-power-eq0.false
    (omega arith) (omega arith) (omega arith) (omega arith) c.if-high-least_high.false c.if-high-least_high-2.false
