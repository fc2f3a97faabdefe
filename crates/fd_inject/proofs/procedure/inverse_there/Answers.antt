use Rattle.std.proofs.Common.{◌≡◌, ◌∙◌, MatchResult, Ok, Err, subst}
use Rattle.std.proofs.lemmas.Result.{IfOk-weaker}
use Rattle.fd_inject.specs.Faults.{UnlessMemory}
use Rattle.fd_inject.specs.Ranges.{inverse_at}
use Rattle.fd_inject.proofs.Iterates.{jacobian_long}
use Rattle.fd_inject.proofs.procedure.inverse_there.Goals as goal

pub returns-clause-inverse : goal.returns-clause-inverse
returns-clause-inverse c =
    subst (λ m. MatchResult c.inverse.result (λ k. inverse_at m ≡ Ok k) (λ f. UnlessMemory f (inverse_at m ≡ Err f)))
    c.in_ok-matrix.ensures.entries c.inverse.ensures.inverse

pub returns-clause-size : goal.returns-clause-size
returns-clause-size c =
    IfOk-weaker c.inverse.result _ _
    (λ k e. e ∙ jacobian_long c.args.net.now c.args.x.now c.in_ok-matrix.matrix c.in_ok-matrix.ensures.entries)
    c.inverse.ensures.size
