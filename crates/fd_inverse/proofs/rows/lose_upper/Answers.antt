use Rattle.std.proofs.Common.{◌≡◌, ◌+◌, ◌/◌, ◌≤◌, ◌^◌, ◌-ℤ◌, ◌*ℤ◌, nat_abs, pos, ap, subst, sym, ◌∙◌}
use Rattle.std.specs.Int.{w64, w128}
use Rattle.std.proofs.lemmas.Int.{to_z-of_z}
use Rattle.fd_arith.specs.fd_exact.Rounding.{near_div}
use Rattle.fd_inverse.proofs.Losses.{again, factor_fits, factor_is, near_product, small_fits, small_room, upper_fits, upper_left}
use Rattle.fd_inverse.proofs.rows.lose_upper.Goals as goal

pub overflow_mul-f : goal.overflow_mul-f
overflow_mul-f c = factor_fits c.args.f c.ranges.f c.requires.short

pub product-requires : goal.product-requires
product-requires c =
    record { entry = subst (λ t. nat_abs t ≤ 2 ^ 62) (sym (to_z-of_z w64 c.args.p c.ranges.p)) c.requires.other }

pub near_over_word-requires : goal.near_over_word-requires
near_over_word-requires c = small_room c.product.result c.product.ensures.small

pub overflow_sub-e : goal.overflow_sub-e
overflow_sub-e c =
    let z = c.product.result in
    let small = c.product.ensures.small in
    let read = to_z-of_z w128 z (small_fits z small) in
    upper_fits c.args.e.now z c.near_over_word.result c.requires.entry small
    (c.near_over_word.ensures.size ∙ ap (λ t. (nat_abs t + 2 ^ 63) / 2 ^ 64) read)
    (c.near_over_word.ensures.value ∙ ap (λ t. near_div t (2 ^ 64)) read)

pub returns-clause-left : goal.returns-clause-left
returns-clause-left c =
    let z = c.product.result in
    let small = c.product.ensures.small in
    let read = to_z-of_z w128 z (small_fits z small) in
    let factor = factor_is c.args.f c.ranges.f c.requires.short in
    let other = to_z-of_z w64 c.args.p c.ranges.p in
    let product : z ≡ (c.args.f *ℤ pos (2 ^ 24)) *ℤ c.args.p = c.product.ensures.value ∙ (λ i. factor i *ℤ other i) in
    upper_left c.args.e.now z c.near_over_word.result c.requires.entry small
    (c.near_over_word.ensures.size ∙ ap (λ t. (nat_abs t + 2 ^ 63) / 2 ^ 64) read)
    (c.near_over_word.ensures.value ∙ ap (λ t. near_div t (2 ^ 64)) read)
    ∙ ap (λ t. c.args.e.now -ℤ near_div t (2 ^ 64)) product
    ∙ ap (λ q. c.args.e.now -ℤ q) (near_product c.args.f c.args.p)

pub returns-clause-size : goal.returns-clause-size
returns-clause-size c = c.unsigned_abs.ensures.value ∙ ap nat_abs (again _ ∙ returns-clause-left c)
