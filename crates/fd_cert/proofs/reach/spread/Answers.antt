use Rattle.std.proofs.Common.{◌≡◌, ◌∙◌, ℕ, suc, ◌+◌, ◌*◌, nat_abs, length, arith, ap, sym, FitsSigned, rules}
use Rattle.std.specs.Int.{w64}
use Rattle.std.proofs.lemmas.Int.{to_z-of_z}
use Rattle.fd_enclosure.specs.fd_exact.States.{part}
use Rattle.fd_enclosure.specs.fd_exact.SumLaws.{sum_n-same, sum_n-times}
use Rattle.fd_enclosure.specs.fd_exact.Sums.{sum_n}
use Rattle.fd_enclosure.specs.Sound.{number_at}
use Rattle.fd_cert.proofs.reach.spread.Goals as goal

pub loop-row-preserved : goal.loop-row-preserved
loop-row-preserved c =
    let k = c.loop-row.row in
    let f : FitsSigned w64 (part c.args.factors.now k) = search rules in
    let s : c.share-sum.result ≡ nat_abs (part c.args.factors.now k) * number_at c.args.mismatch.now k = simp to_z-of_z at c.share-sum.ensures.share in
    let next : suc k ≡ k + 1 = omega arith in
    record {
      sum = (λ i. c.loop-row.invariant.sum i + s i) ∙ ap (sum_n (λ k. nat_abs (part c.args.factors.now k) * number_at c.args.mismatch.now k)) next;
      small = omega (arith, c.loop-row.invariant.small, c.share-sum.ensures.small);
    }

pub returns-clause-sum : goal.returns-clause-sum
returns-clause-sum c =
    let n = length c.args.mismatch.now in
    let k = c.loop-row.row in
    let f = λ (l : ℕ). nat_abs (part c.args.factors.now l) * number_at c.args.mismatch.now l in
    let g = λ (l : ℕ). nat_abs (part c.args.factors.now l) * (2 * number_at c.args.mismatch.now l) in
    let end : k ≡ n = omega (arith, c.loop-row-test.false, c.loop-row.auto.row-end) in
    ap (λ s. 2 * s) c.loop-row.invariant.sum
    ∙ sym (sum_n-times 2 f k)
    ∙ sum_n-same (λ l. 2 * f l) g k (λ l m.
    turned (nat_abs (part c.args.factors.now l)) (number_at c.args.mismatch.now l))
    ∙ ap (sum_n g) end
  where
    turned : (a b : ℕ) → 2 * (a * b) ≡ a * (2 * b)
    turned a b = omega arith
