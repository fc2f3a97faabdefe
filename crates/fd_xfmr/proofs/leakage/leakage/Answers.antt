use Rattle.std.proofs.Common.{◌*◌, ◌≤◌, ◌^◌, nat_abs, to_z, of_z, arith}
use Rattle.std.specs.Int.{w128}
use Rattle.std.proofs.lemmas.Int.{ints}
use Rattle.fd_xfmr.proofs.Products.{percent_most, quotient_room}
use Rattle.fd_xfmr.proofs.leakage.leakage.Goals as goal

pub floor_of_product-requires-clause-product_fits : goal.floor_of_product-requires-clause-product_fits
floor_of_product-requires-clause-product_fits c =
    let l = c.requires.percent.least in
    let m = c.requires.percent.most in
    let p : nat_abs (to_z w128 (of_z w128 c.args.percent)) ≤ 2 * 10 ^ 11 = omega (arith, ints) in
    let q = percent_most _ c.volts_squared.result p c.volts_squared.ensures.most in
    omega arith

pub returns-clause-within : goal.returns-clause-within
returns-clause-within c =
    let l = c.requires.percent.least in
    let m = c.requires.percent.most in
    let k = c.requires.xfmr.kva.least in
    let p : nat_abs (to_z w128 (of_z w128 c.args.percent)) ≤ 2 * 10 ^ 11 = omega (arith, ints) in
    let q = percent_most _ c.volts_squared.result p c.volts_squared.ensures.most in
    let u : 10 ^ 6 ≤ c.unsigned_abs-over.result = omega (arith, ints) in
    let w = c.floor_of_product.ensures.within (6 * 10 ^ 24) (quotient_room _ _ q u) in
    omega (arith, ints)
