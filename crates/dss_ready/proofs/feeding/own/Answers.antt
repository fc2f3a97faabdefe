use Rattle.std.proofs.Common.{◌++◌, [], ◌∷◌, ap, sym, ◌∙◌, add-one, zero-add, arith}
use Rattle.std.specs.List.{range_with_len}
use Rattle.dss_ready.proofs.Joining.{range_with_len-more}
use Rattle.dss_ready.proofs.feeding.own.Goals as goal

pub loop-place-preserved : goal.loop-place-preserved
loop-place-preserved c =
    let n = c.loop-place.place in (
      c.in_ok-push.ensures.items
          ∙ (λ i. c.loop-place.invariant.0 i ++ sym (zero-add n) i ∷ [])
          ∙ sym (range_with_len-more 0 n)
          ∙ ap (range_with_len 0) (sym (add-one n)),
      omega (arith, c.in_ok-push.ensures.len, c.loop-place.invariant.1),
    )
