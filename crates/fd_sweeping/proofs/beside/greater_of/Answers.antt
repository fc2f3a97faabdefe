use Rattle.std.proofs.Common.{◌≡◌, ◌∙◌, ◌++◌, ◌∷◌, [], max, sym}
use Rattle.fd_solving.specs.fd_enclosure.Sound.{number_at}
use Rattle.fd_solving.proofs.CallerLemmas.fd_equations.{list_of-more}
use Rattle.fd_sweeping.proofs.beside.greater_of.Goals as goal

pub loop-row-preserved : goal.loop-row-preserved
loop-row-preserved c =
    c.in_ok-push.ensures.items ∙ (λ i. c.loop-row.invariant i ++ c.greater_at.ensures i ∷ [])
    ∙ sym (list_of-more c.loop-row.row (λ k. max (number_at c.args.first.now k) (number_at c.args.second.now k)))
