use Rattle.std.proofs.Common.{◌∙◌}
use Rattle.std.proofs.lemmas.Result.{IfOk-weaker}
use Rattle.fd_solving.specs.fd_bases.Bases.{bases_of}
use Rattle.fd_solving.proofs.CallerLemmas.{bases_with}
use Rattle.fd_sweeping.specs.Pages.{its_sweep}
use Rattle.fd_sweeping.proofs.page.LadderReportPage.bases.Goals as goal

pub returns : goal.returns
returns c =
    IfOk-weaker c.bases.result _ _ (λ r is. is ∙ bases_with its_sweep (bases_of c.args.circuit.now)) c.bases.ensures
