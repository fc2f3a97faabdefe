use Rattle.std.proofs.Common.{◌∙◌, pos, nat_abs, ap, arith}
use Rattle.std.specs.Int.{w128}
use Rattle.std.proofs.lemmas.Int.{ints, to_z-of_z}
use Rattle.fd_rungs.specs.Numbers.{times}
use Rattle.fd_rungs.proofs.Products.{negative_coefficient}
use Rattle.fd_rungs.proofs.numbers.times.Goals as goal

pub returns-then-f-lt0-clause-value : goal.returns-then-f-lt0-clause-value
returns-then-f-lt0-clause-value c =
    let value = c.times_size-product.ensures.value
    ∙ ap (λ y. times (pos c.unsigned_abs.result) y) (to_z-of_z w128 c.args.z c.ranges.z)
    ∙ ap (λ n. times (pos n) c.args.z) c.unsigned_abs.ensures.value
    ∙ ap (λ y. times (pos (nat_abs y)) c.args.z) (to_z-of_z w128 c.args.f c.ranges.f) in
    negative_coefficient c.args.f c.args.z c.times_size-product.result
    (omega (arith, ints, c.if-f-lt0.true))
    value
    (omega (arith, ints, c.times_size-product.ensures.most, c.unsigned_abs.ensures.value, c.requires.f))
