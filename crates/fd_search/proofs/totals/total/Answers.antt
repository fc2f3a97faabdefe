use Rattle.std.proofs.Common.{◌∙◌, arith, get_or, sym}
use Rattle.fd_inject.proofs.CallerLemmas.fd_equations.{list_n_more}
use Rattle.fd_search.proofs.Sums.{high_grown, low_grown, sum_grown}
use Rattle.fd_search.proofs.totals.total.Goals as goal

pub loop-mismatch-preserved : goal.loop-mismatch-preserved
loop-mismatch-preserved c =
    let k = c.loop-mismatch.mismatch-index in
    let xs = c.args.mismatches.now in
    let m = get_or xs k 0 in
    record {
      sum = sum_grown c.loop-mismatch.high c.loop-mismatch.low _ m c.loop-mismatch.invariant.sum
          ∙ sym (list_n_more (λ n. n) xs k 0 c.loop-mismatch-test.true);
      high = high_grown c.loop-mismatch.high k m (omega (arith, c.type_inv.mismatches k)) c.loop-mismatch.invariant.high;
      low = low_grown c.loop-mismatch.low k m c.loop-mismatch.invariant.low;
    }
