use Rattle.std.proofs.Common.{◌≤◌, ◌*◌, ◌^◌, sym, subst}
use Rattle.fd_elements.proofs.Reactive.{factor_least, factor_most, read_size, root_fits, root_small, minus_fits, minus_small, root_is, minus_root_is}
use Rattle.fd_elements.proofs.powers.by_power_factor.Goals as goal

pub reactive_size-size-requires-clause-p : goal.reactive_size-size-requires-clause-p
reactive_size-size-requires-clause-p c =
    subst (λ t. t ≤ 3 * 10 ^ 14) (sym (read_size c.args.p _ c.ranges.p c.unsigned_abs.ensures.value)) c.requires.p

pub reactive_size-size-requires-clause-pf_least : goal.reactive_size-size-requires-clause-pf_least
reactive_size-size-requires-clause-pf_least c =
    subst (λ t. 10 ^ 7 ≤ t) (sym (read_size c.args.pf _ c.ranges.pf c.unsigned_abs-2.ensures.value))
    (factor_least c.args.pf c.requires.pf)

pub reactive_size-size-requires-clause-pf_most : goal.reactive_size-size-requires-clause-pf_most
reactive_size-size-requires-clause-pf_most c =
    subst (λ t. t ≤ 10 ^ 9) (sym (read_size c.args.pf _ c.ranges.pf c.unsigned_abs-2.ensures.value))
    (factor_most c.args.pf c.requires.pf)

pub overflow_cast-size : goal.overflow_cast-size
overflow_cast-size c = root_fits c.reactive_size-size.result c.reactive_size-size.ensures.most

pub overflow_sub-result : goal.overflow_sub-result
overflow_sub-result c = minus_fits c.reactive_size-size.result c.reactive_size-size.ensures.most

pub returns-then-p-pf-clause-value : goal.returns-then-p-pf-clause-value
returns-then-p-pf-clause-value c =
    let size = c.reactive_size-size.ensures in
    root_is c.args.p c.args.pf c.reactive_size-size.result _ _ c.ranges.p c.ranges.pf c.unsigned_abs.ensures.value
    c.unsigned_abs-2.ensures.value size.least size.more size.most c.if-p-pf.true

pub returns-then-p-pf-clause-most : goal.returns-then-p-pf-clause-most
returns-then-p-pf-clause-most c = root_small c.reactive_size-size.result c.reactive_size-size.ensures.most

pub returns-else-p-pf-clause-value : goal.returns-else-p-pf-clause-value
returns-else-p-pf-clause-value c =
    let size = c.reactive_size-size.ensures in
    minus_root_is c.args.p c.args.pf c.reactive_size-size.result _ _ c.ranges.p c.ranges.pf c.unsigned_abs.ensures.value
    c.unsigned_abs-2.ensures.value size.least size.more size.most c.if-p-pf.false

pub returns-else-p-pf-clause-most : goal.returns-else-p-pf-clause-most
returns-else-p-pf-clause-most c = minus_small c.reactive_size-size.result c.reactive_size-size.ensures.most
