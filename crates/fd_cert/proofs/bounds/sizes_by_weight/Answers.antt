use Rattle.std.proofs.Common.{◌≡◌, ◌∙◌, ◌*◌, ◌+◌, ◌<◌, ◌^◌, ℕ, nat_abs, length, arith, ap, sym, subst, FitsSigned, rules}
use Rattle.std.specs.Int.{w128}
use Rattle.std.proofs.lemmas.Int.{to_z-of_z}
use Rattle.fd_enclosure.specs.fd_exact.States.{part}
use Rattle.fd_cert.specs.Totals.{weighted_total}
use Rattle.fd_cert.proofs.RowTotals.{front_more, past_sum}
use Rattle.fd_cert.proofs.bounds.sizes_by_weight.Goals as goal

pub returns-in-None : goal.returns-in-None
returns-in-None c =
    let j = c.loop-col.col in
    let w = part c.args.weights.now j in
    let z = part c.args.numbers.now j in
    let f : FitsSigned w128 w = search rules in
    let g : FitsSigned w128 z = search rules in
    let weight = c.unsigned_abs-weight.ensures.value ∙ ap nat_abs (to_z-of_z w128 w f) in
    let size = c.unsigned_abs.ensures.value ∙ ap nat_abs (to_z-of_z w128 z g) in
    past_sum (λ j. nat_abs (part c.args.weights.now j) * nat_abs (part c.args.numbers.now j)) j
    (length c.args.numbers.now) c.loop-col.total c.loop-col-test.true c.loop-col.invariant.sum
    (subst (λ k. 2 ^ 120 < c.loop-col.total + k) (λ i. weight i * size i) c.in-None.ensures)

pub loop-col-preserved : goal.loop-col-preserved
loop-col-preserved c =
    let j = c.loop-col.col in
    let ws = c.args.weights.now in
    let zs = c.args.numbers.now in
    let f : FitsSigned w128 (part ws j) = search rules in
    let g : FitsSigned w128 (part zs j) = search rules in
    let weight = c.unsigned_abs-weight.ensures.value ∙ ap nat_abs (to_z-of_z w128 (part ws j) f) in
    let size = c.unsigned_abs.ensures.value ∙ ap nat_abs (to_z-of_z w128 (part zs j) g) in
    let sum = front_more (λ j. nat_abs (part ws j) * nat_abs (part zs j)) j 0 c.loop-col.total
    (c.loop-col.invariant.sum ∙ sym (zero_plus (weighted_total j ws zs))) in
    record {
      sum = c.in-Some.ensures.0 ∙ (λ i. c.loop-col.total + weight i * size i) ∙ sum ∙ zero_plus (weighted_total (j + 1) ws zs);
      small = c.in-Some.ensures.1;
    }
  where
    zero_plus : (k : ℕ) → 0 + k ≡ k
    zero_plus k = omega arith
