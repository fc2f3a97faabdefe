use Rattle.fd_line.proofs.Bounds.{unit_fits, divisor_fits, divisor_most, divisor_positive, factor_fits, product_fits, along_is, along_within}
use Rattle.fd_line.proofs.totals.along.Goals as goal

pub overflow_mul-factor : goal.overflow_mul-factor
overflow_mul-factor c =
    let l = c.args.line.now in
    let r = c.requires in
    record {
      fits = factor_fits c.args.top l.length _ l.line_unit c.args.over c.ranges.top r.line.length_least
          r.line.length_most c.unsigned_abs.ensures.value r.line.line_most r.over_few r.top;
    }

pub overflow_mul-divisor : goal.overflow_mul-divisor
overflow_mul-divisor c =
    let r = c.requires in
    record {
      fits = unit_fits c.args.over c.args.grid c.args.line.now.code_unit r.over_some r.over_few r.grid_least r.grid_most
          r.line.code_least r.line.code_most;
    }

pub overflow_mul-divisor-2 : goal.overflow_mul-divisor-2
overflow_mul-divisor-2 c =
    let r = c.requires in
    record {
      fits = divisor_fits c.args.over c.args.grid c.args.line.now.code_unit r.over_some r.over_few r.grid_least
          r.grid_most r.line.code_least r.line.code_most;
    }

pub floor_of_product-requires-clause-positive : goal.floor_of_product-requires-clause-positive
floor_of_product-requires-clause-positive c =
    let r = c.requires in
    divisor_positive c.args.over c.args.grid c.args.line.now.code_unit r.over_some r.over_few r.grid_least r.grid_most
    r.line.code_least r.line.code_most

pub floor_of_product-requires-clause-divisor_fits : goal.floor_of_product-requires-clause-divisor_fits
floor_of_product-requires-clause-divisor_fits c =
    let r = c.requires in
    divisor_most c.args.over c.args.grid c.args.line.now.code_unit r.over_some r.over_few r.grid_least r.grid_most
    r.line.code_least r.line.code_most

pub floor_of_product-requires-clause-product_fits : goal.floor_of_product-requires-clause-product_fits
floor_of_product-requires-clause-product_fits c =
    let l = c.args.line.now in
    let r = c.requires in
    product_fits c.args.top l.length _ l.line_unit c.args.over c.ranges.top r.line.length_least r.line.length_most
    c.unsigned_abs.ensures.value r.line.line_most r.over_few r.top

pub returns-clause-value : goal.returns-clause-value
returns-clause-value c =
    let l = c.args.line.now in
    let r = c.requires in
    along_is c.args.top l.length _ l.line_unit c.args.over c.ranges.top r.line.length_least r.line.length_most
    c.unsigned_abs.ensures.value r.line.line_most r.over_few r.top c.args.grid l.code_unit c.floor_of_product.result
    (record { sfits = c.floor_of_product.type_inv }) r.line.code_least c.floor_of_product.ensures.value
    c.floor_of_product.ensures.within

pub returns-clause-within : goal.returns-clause-within
returns-clause-within c =
    let l = c.args.line.now in
    let r = c.requires in
    along_within c.args.top l.length _ l.line_unit c.args.over c.ranges.top r.line.length_least r.line.length_most
    c.unsigned_abs.ensures.value r.line.line_most r.over_few r.top c.args.grid l.code_unit c.floor_of_product.result
    (record { sfits = c.floor_of_product.type_inv }) r.line.code_least c.floor_of_product.ensures.value
    c.floor_of_product.ensures.within
