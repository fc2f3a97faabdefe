use Rattle.fd_source.proofs.Codes.{turned_fits, turned_room, component_is}
use Rattle.fd_source.proofs.voltage.component.Goals as goal

pub overflow_mul-volts : goal.overflow_mul-volts
overflow_mul-volts c =
    turned_fits c.args.volts c.cosine.result c.args.steps c.ranges.volts c.requires.volts c.cosine.ensures.value
    c.cosine.ensures.most

pub near_quotient-requires-clause-size_fits : goal.near_quotient-requires-clause-size_fits
near_quotient-requires-clause-size_fits c =
    turned_room c.args.volts c.cosine.result c.args.steps c.ranges.volts c.requires.volts c.cosine.ensures.value
    c.cosine.ensures.most

pub returns : goal.returns
returns c =
    component_is c.args.volts c.cosine.result c.args.steps c.ranges.volts c.requires.volts c.cosine.ensures.value
    c.cosine.ensures.most c.near_quotient.result c.near_quotient.ensures.value
