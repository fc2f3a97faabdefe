use Rattle.std.proofs.Common.{◌≡◌, ◌∙◌, ◌*◌, ◌+◌, ℕ, nat_abs, arith, ap, sym, FitsSigned, rules}
use Rattle.std.specs.Int.{w64, w128}
use Rattle.std.proofs.lemmas.Int.{to_z-of_z}
use Rattle.fd_enclosure.specs.fd_exact.States.{part}
use Rattle.fd_enclosure.specs.Sound.{number_at}
use Rattle.fd_cert.specs.Totals.{short_total, sizes_total}
use Rattle.fd_cert.proofs.RowTotals.{front_more}
use Rattle.fd_cert.proofs.bounds.short_row_total.Goals as goal

pub loop-place-preserved : goal.loop-place-preserved
loop-place-preserved c =
    let j = c.loop-place.place in
    let ws = c.args.shorts.now in
    let zs = c.args.numbers.now in
    let fs = c.args.factors.now in
    let rs = c.args.lows.now in
    let g : FitsSigned w128 (part zs j) = search rules in
    let size : c.in-Some.size ≡ nat_abs (part zs j) = c.in-Some.ensures ∙ ap nat_abs (to_z-of_z w128 (part zs j) g) in
    let sum = front_more (λ j. number_at ws j * nat_abs (part zs j)) j 0 c.loop-place.total
    (c.loop-place.invariant.sum ∙ sym (zero_plus (short_total j ws zs))) in
    let f : FitsSigned w64 (part fs j) = search rules in
    let next : c.plus_low-sizes.result ≡ c.loop-place.sizes + nat_abs (part fs j) * number_at rs j = simp to_z-of_z at c.plus_low-sizes.ensures.sum in
    let sizes = front_more (λ j. nat_abs (part fs j) * number_at rs j) j 0 c.loop-place.sizes
    (c.loop-place.invariant.sizes ∙ sym (zero_plus (sizes_total j fs rs))) in
    record {
      sum = c.plus_short-total.ensures.sum ∙ (λ i. c.loop-place.total + number_at ws j * size i) ∙ sum ∙ zero_plus (short_total (j + 1) ws zs);
      small = c.plus_short-total.ensures.small j c.loop-place.invariant.small;
      sizes = next ∙ sizes ∙ zero_plus (sizes_total (j + 1) fs rs);
      below = c.plus_low-sizes.ensures.small j c.loop-place.invariant.below;
    }
  where
    zero_plus : (k : ℕ) → 0 + k ≡ k
    zero_plus k = omega arith
