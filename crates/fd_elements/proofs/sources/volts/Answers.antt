use Rattle.std.proofs.Common.{◌*◌, ◌^◌, arith, FitsSigned, rules}
use Rattle.std.specs.Int.{w128}
use Rattle.std.proofs.lemmas.Int.{ints, to_z-of_z}
use Rattle.fd_elements.proofs.Products.{product_most}
use Rattle.fd_elements.proofs.sources.volts.Goals as goal

pub returns-then-source-eq1-clause-within : goal.returns-then-source-eq1-clause-within
returns-then-source-eq1-clause-within c =
    let s = c.args.source.now in
    let r = c.requires in
    let fp : FitsSigned w128 s.pu = search rules in
    let fk : FitsSigned w128 s.basekv = search rules in
    let most = c.part_of.ensures.most (2 * 10 ^ 12) (simp to_z-of_z (product_most s.pu s.basekv (record {
      least = r.pu.least;
      most = r.pu.most;
    }) (record { least = omega (arith, ints); most = r.basekv.most }))) in
    let sign = c.part_of.ensures.sign in
    record { least = omega (arith, ints, sign, most); most = omega (arith, ints, sign, most) }
