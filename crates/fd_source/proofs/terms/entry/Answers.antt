use Rattle.fd_source.proofs.Codes.{sequence_within, three_room, entry_is, entry_within}
use Rattle.fd_source.proofs.terms.entry.Goals as goal

pub thirds-requires-clause-z1 : goal.thirds-requires-clause-z1
thirds-requires-clause-z1 c = sequence_within c.args.z1 c.ranges.z1 c.requires.z1

pub thirds-requires-clause-z0 : goal.thirds-requires-clause-z0
thirds-requires-clause-z0 c = sequence_within c.args.z0 c.ranges.z0 c.requires.z0

pub floor_of_product-requires-clause-product_fits : goal.floor_of_product-requires-clause-product_fits
floor_of_product-requires-clause-product_fits c =
    let a = c.args in
    let t = c.thirds.ensures in
    three_room a.z1 a.z0 c.thirds.result a.k a.m c.ranges.z1 c.ranges.z0 c.requires.z1 c.requires.z0 t.value t.least
    t.most

pub returns-clause-value : goal.returns-clause-value
returns-clause-value c =
    let a = c.args in
    let t = c.thirds.ensures in
    let f = c.floor_of_product.ensures in
    entry_is a.z1 a.z0 c.thirds.result a.k a.m c.ranges.z1 c.ranges.z0 c.requires.z1 c.requires.z0 t.value t.least
    t.most c.floor_of_product.result f.value f.within

pub returns-clause-within : goal.returns-clause-within
returns-clause-within c =
    let a = c.args in
    let t = c.thirds.ensures in
    let f = c.floor_of_product.ensures in
    entry_within a.z1 a.z0 c.thirds.result a.k a.m c.ranges.z1 c.ranges.z0 c.requires.z1 c.requires.z0 t.value t.least
    t.most c.floor_of_product.result f.value f.within
