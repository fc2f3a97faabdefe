use Rattle.std.proofs.Common.{◌∙◌, pos, nat_abs, ap, sym, arith}
use Rattle.std.specs.Int.{w128}
use Rattle.std.proofs.lemmas.Int.{ints, to_z-of_z}
use Rattle.fd_rungs.specs.Numbers.{times}
use Rattle.fd_rungs.proofs.Products.{negative_number}
use Rattle.fd_rungs.proofs.numbers.times_size.Goals as goal

pub returns-then-z-lt0-clause-value : goal.returns-then-z-lt0-clause-value
returns-then-z-lt0-clause-value c =
    negative_number c.args.f c.args.z c.size_of_product-size.result
    (omega (arith, ints, c.if-z-lt0.true))
    (ap (λ y. times (pos c.args.f) (pos (nat_abs y))) (sym (to_z-of_z w128 c.args.z c.ranges.z))
    ∙ ap (λ n. times (pos c.args.f) (pos n)) (sym c.unsigned_abs.ensures.value) ∙ c.size_of_product-size.ensures.value)
    (omega (arith, c.size_of_product-size.ensures.most, c.requires.f))
