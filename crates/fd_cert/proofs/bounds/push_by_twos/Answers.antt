use Rattle.std.proofs.Common.{◌≡◌, ◌∙◌, ◌+◌, ◌*◌, ◌++◌, ◌∷◌, [], length, arith, ap, sym, rules}
use Rattle.fd_enclosure.specs.fd_exact.States.{entry, part}
use Rattle.fd_enclosure.proofs.CallerLemmas.fd_equations.{list_of-more, rewritten}
use Rattle.fd_enclosure.specs.fd_equations.Rounded.{list_of}
use Rattle.fd_enclosure.specs.Bounds.{bound_at}
use Rattle.fd_cert.proofs.RowBounds.{bound_row}
use Rattle.fd_cert.proofs.bounds.push_by_twos.Goals as goal

pub loop-pair-preserved : goal.loop-pair-preserved
loop-pair-preserved c =
    let n = c.args.slopes.now.jacobian.matrix.now.size in
    let i = 2 * c.loop-pair.pair in
    let s : c.loop-pair.others.len ≡ length c.two_bounds-bound.new.others = search rules in
    record {
      sums = c.two_bounds-bound.ensures.sums ∙ c.loop-pair.invariant.sums;
      others = ap length (rewritten c.loop-pair.others.items c.two_bounds-bound.new.others c.loop-pair.others.len s)
          ∙ c.two_bounds-bound.ensures.others
          ∙ ap length c.deref_mut.ensures.value
          ∙ c.loop-pair.invariant.others;
      made = λ J R w h.
          let f = bound_at n (entry c.args.inverse.now) J R w in
          let first = c.two_bounds-bound.ensures.first J R w h
          ∙ bound_row n (entry c.args.inverse.now) J R w i c.row-first.result.now (λ l.
          ap (λ xs. part xs l) c.row-first.ensures.numbers) in
          let second = c.two_bounds-bound.ensures.second J R w h
          ∙ bound_row n (entry c.args.inverse.now) J R w (i + 1) c.row-second.result.now (λ l.
          ap (λ xs. part xs l) c.row-second.ensures.numbers) in
          let one = c.in_ok-push.ensures.items ∙ (λ k. c.loop-pair.invariant.made J R w h k ++ first k ∷ []) ∙ sym (list_of-more i f) in
          let even : i + 1 + 1 ≡ 2 * (c.loop-pair.pair + 1) = omega arith in
          c.in_ok-push-2.ensures.items ∙ (λ k. one k ++ second k ∷ []) ∙ sym (list_of-more (i + 1) f) ∙ ap (λ m. list_of m f) even;
    }
