use Rattle.std.proofs.Common.{◌∙◌, sym, ◌++◌, ◌∷◌, [], pos}
use Rattle.fd_pattern.specs.fd_arith.Interval.{capped}
use Rattle.fd_equations.proofs.Lists.{list_of-more}
use Rattle.fd_equations.proofs.rows.zeros.Goals as goal

pub loop-row-preserved : goal.loop-row-preserved
loop-row-preserved c =
    c.in_ok-push.ensures.items
    ∙ (λ i. c.loop-row.invariant i ++ c.point.ensures i ∷ [])
    ∙ sym (list_of-more c.loop-row._row (λ _. capped (pos 0) (pos 0)))
