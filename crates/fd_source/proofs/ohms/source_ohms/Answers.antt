use Rattle.std.proofs.Common.{refl}
use Rattle.fd_source.proofs.Sizes.{volts_sign, volts_most, three_least, one_least, three_is, one_is, past, not_past, three_within, one_within}
use Rattle.fd_source.proofs.ohms.source_ohms.Goals as goal

pub returns-then-is_source_above_limit-clause-range : goal.returns-then-is_source_above_limit-clause-range
returns-then-is_source_above_limit-clause-range c =
    let test = c.is_source_above_limit in
    (λ e. past c.args.source.now c.requires test.result test.ensures c.if-is_source_above_limit.true, λ p. refl)

pub size-three-requires-clause-kv_least : goal.size-three-requires-clause-kv_least
size-three-requires-clause-kv_least c = volts_sign c.args.source.now c.requires

pub size-three-requires-clause-kv_most : goal.size-three-requires-clause-kv_most
size-three-requires-clause-kv_most c = volts_most c.args.source.now c.requires

pub size-three-requires-clause-mva : goal.size-three-requires-clause-mva
size-three-requires-clause-mva c = three_least c.args.source.now c.requires

pub size-one-requires-clause-kv_least : goal.size-one-requires-clause-kv_least
size-one-requires-clause-kv_least c = volts_sign c.args.source.now c.requires

pub size-one-requires-clause-kv_most : goal.size-one-requires-clause-kv_most
size-one-requires-clause-kv_most c = volts_most c.args.source.now c.requires

pub size-one-requires-clause-mva : goal.size-one-requires-clause-mva
size-one-requires-clause-mva c = one_least c.args.source.now c.requires

pub ohms_from-requires-clause-three : goal.ohms_from-requires-clause-three
ohms_from-requires-clause-three c =
    three_is c.args.source.now c.requires c.size-three.result c.size-three.ensures

pub ohms_from-requires-clause-one : goal.ohms_from-requires-clause-one
ohms_from-requires-clause-one c = one_is c.args.source.now c.requires c.size-one.result c.size-one.ensures

pub ohms_from-requires-clause-three_most : goal.ohms_from-requires-clause-three_most
ohms_from-requires-clause-three_most c =
    let test = c.is_source_above_limit in
    three_within c.args.source.now c.requires test.result test.ensures c.if-is_source_above_limit.false _
    (ohms_from-requires-clause-three c)

pub ohms_from-requires-clause-one_most : goal.ohms_from-requires-clause-one_most
ohms_from-requires-clause-one_most c =
    let test = c.is_source_above_limit in
    one_within c.args.source.now c.requires test.result test.ensures c.if-is_source_above_limit.false _
    (ohms_from-requires-clause-one c)

pub returns-clause-range : goal.returns-clause-range
returns-clause-range c =
    let test = c.is_source_above_limit in (
      λ e. cc,
      λ p. absurd (not_past c.args.source.now c.requires test.result test.ensures c.if-is_source_above_limit.false p),
    )
