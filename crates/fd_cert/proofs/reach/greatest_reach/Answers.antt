use Rattle.std.proofs.Common.{◌≡◌, ◌∙◌, ℕ, suc, ◌+◌, ◌<◌, max, nat_abs, length, arith, ap, FitsSigned, rules}
use Rattle.std.specs.Int.{w128}
use Rattle.std.proofs.lemmas.Int.{to_z-of_z}
use Rattle.fd_enclosure.specs.fd_exact.Greatest.{greatest}
use Rattle.fd_enclosure.specs.fd_exact.States.{entry, part}
use Rattle.fd_cert.specs.Reaches.{reach_in}
use Rattle.fd_cert.proofs.Verdict.{max_is, reach_is}
use Rattle.fd_cert.proofs.reach.greatest_reach.Goals as goal

pub loop-place-preserved : goal.loop-place-preserved
loop-place-preserved c = λ w e h k.
    let i = c.loop-place.place in
    let n = length c.args.mismatch.now in
    let inside : i < n = omega arith in
    let f : FitsSigned w128 (part c.args.weights.now i) = search rules in
    let weight : c.unsigned_abs-weight.result ≡ nat_abs (part c.args.weights.now i) = simp to_z-of_z at c.unsigned_abs-weight.ensures.value in
    let read = λ (l : ℕ). ap (λ xs. part xs l) c.row.ensures.numbers in
    let reach = c.reach.ensures.reach
    ∙ reach_is n (entry c.args.inverse.now) w e i c.row.result.now c.args.mismatch.now c.unsigned_abs-weight.result
    read k (weight ∙ ap nat_abs (h i inside)) in
    let next : suc i ≡ i + 1 = omega arith in
    c.max-greatest.ensures ∙ max_is c.loop-place.greatest c.reach.result
    ∙ (λ j. max (c.loop-place.invariant w e h k j) (reach j))
    ∙ ap (greatest (reach_in n (entry c.args.inverse.now) w e)) next
