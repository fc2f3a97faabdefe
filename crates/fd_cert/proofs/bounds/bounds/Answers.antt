use Rattle.std.proofs.Common.{◌≡◌, ◌∙◌, ℕ, ◌++◌, ◌∷◌, [], length, ap, sym, rules}
use Rattle.fd_enclosure.specs.fd_exact.States.{entry, part}
use Rattle.fd_enclosure.proofs.CallerLemmas.fd_equations.{list_of-more, rewritten}
use Rattle.fd_enclosure.specs.Bounds.{bound_at}
use Rattle.fd_cert.proofs.RowBounds.{bound_row}
use Rattle.fd_cert.proofs.bounds.bounds.Goals as goal

pub loop-row-preserved : goal.loop-row-preserved
loop-row-preserved c =
    let n = c.args.slopes.now.jacobian.matrix.now.size in
    let i = c.loop-row.row in
    let s : c.loop-row.sums.len ≡ length c.bound.new.sums = search rules in
    record {
      sums = ap length (rewritten c.loop-row.sums.items c.bound.new.sums c.loop-row.sums.len s)
          ∙ c.bound.ensures.sums
          ∙ ap length c.deref_mut-in-loop-row.ensures.value
          ∙ c.loop-row.invariant.sums;
      made = λ J R w h.
          let read = λ (l : ℕ). ap (λ xs. part xs l) c.row.ensures.numbers in
          let value = c.bound.ensures.bound J R w h ∙ bound_row n (entry c.args.inverse.now) J R w i c.row.result.now read in
          c.in_ok-push.ensures.items ∙ (λ k. c.loop-row.invariant.made J R w h k ++ value k ∷ [])
          ∙ sym (list_of-more i (bound_at n (entry c.args.inverse.now) J R w));
    }
