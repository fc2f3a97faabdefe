use Rattle.std.proofs.Common.{◌≡◌, ◌<◌, ◌+◌, ◌*◌, ◌^◌, nat_abs, length, IfSome, arith, ap, rules, subst, sym}
use Rattle.fd_enclosure.specs.fd_exact.States.{part}
use Rattle.fd_enclosure.specs.fd_exact.SumLaws.{sum_n-same}
use Rattle.fd_enclosure.specs.Sound.{number_at}
use Rattle.fd_cert.specs.Parts.{AreParts, high_sum}
use Rattle.fd_cert.specs.Totals.{AreShortWeights, short_total, sizes_total, weighted_total}
use Rattle.fd_cert.proofs.bounds.usual_row_total.Goals as goal

pub returns : goal.returns
returns c =
    let n = length c.args.left.now in
    let ws = c.args.slopes.now.weights.now in
    let zs = c.args.left.now in
    let fs = c.args.factors.now in
    let rs = c.args.slopes.now.radii.items in
    let lows = c.in-Some-parts.radii.lows.items in
    let highs = c.in-Some-parts.radii.highs.items in
    let shorts : AreShortWeights ws c.in-Some.shorts.items = search rules in
    let same : short_total n c.in-Some.shorts.items zs ≡ weighted_total n ws zs =
    sum_n-same (λ j. number_at c.in-Some.shorts.items j * nat_abs (part zs j)) (λ j. nat_abs (part ws j) * nat_abs (part zs j)) n
    (λ j l. ap (λ w. w * nat_abs (part zs j)) (shorts.each j (let inside : j < length ws = omega (arith, l, c.requires.weights) in inside))) in
    let parts : AreParts rs lows highs = search rules in
    let whole : sizes_total n fs rs ≡ sizes_total n fs lows + 2 ^ 60 * high_sum (λ l. nat_abs (part fs l)) highs =
    subst (λ k. sizes_total k fs rs ≡ sizes_total k fs lows + 2 ^ 60 * high_sum (λ l. nat_abs (part fs l)) highs)
    c.requires.radii (parts.sums (λ l. nat_abs (part fs l))) in
    let made : IfSome c.short_row_total.result (λ t. t
    ≡ short_total n c.in-Some.shorts.items zs
    + (sizes_total n fs lows + 2 ^ 60 * high_sum (λ l. nat_abs (part fs l)) highs)) =
    search rules in
    subst (λ s. IfSome c.short_row_total.result (λ t. t ≡ s + sizes_total n fs rs)) same
    (subst (λ s. IfSome c.short_row_total.result (λ t. t ≡ short_total n c.in-Some.shorts.items zs + s)) (sym whole) made)
