use Rattle.fd_elements.proofs.Products.{part_fits, part_room, volts_is, volts_sign, volts_above, volts_below}
use Rattle.fd_elements.proofs.volts.part_of.Goals as goal

pub overflow_mul-part : goal.overflow_mul-part
overflow_mul-part c = part_fits c.args.part c.args.volts c.ranges.part c.ranges.volts c.requires.part c.requires.volts

pub near_quotient-requires-clause-size_fits : goal.near_quotient-requires-clause-size_fits
near_quotient-requires-clause-size_fits c =
    part_room c.args.part c.args.volts c.ranges.part c.ranges.volts c.requires.part c.requires.volts

pub returns-clause-value : goal.returns-clause-value
returns-clause-value c =
    volts_is c.args.part c.args.volts c.ranges.part c.ranges.volts c.requires.part c.requires.volts
    c.near_quotient.result c.near_quotient.ensures.value

pub returns-clause-sign : goal.returns-clause-sign
returns-clause-sign c =
    volts_sign c.args.part c.args.volts c.ranges.part c.ranges.volts c.requires.part c.requires.volts
    c.near_quotient.result c.near_quotient.ensures.value

pub returns-clause-most : goal.returns-clause-most
returns-clause-most c =
    volts_above c.args.part c.args.volts c.ranges.part c.ranges.volts c.requires.part c.requires.volts
    c.near_quotient.result c.near_quotient.ensures.value

pub returns-clause-least : goal.returns-clause-least
returns-clause-least c =
    volts_below c.args.part c.args.volts c.ranges.part c.ranges.volts c.requires.part c.requires.volts
    c.near_quotient.result c.near_quotient.ensures.value
