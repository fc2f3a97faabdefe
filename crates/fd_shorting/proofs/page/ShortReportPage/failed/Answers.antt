use Rattle.std.proofs.Common.{◌∙◌}
use Rattle.std.proofs.lemmas.Result.{IfOk-weaker}
use Rattle.fd_solving.specs.fd_pages.Hours.{end_with, settle_made}
use Rattle.fd_solving.specs.fd_sample.Probes.{positions_in}
use Rattle.fd_solving.proofs.CallerLemmas.{nothing_beside}
use Rattle.fd_shorting.specs.Pages.{its_phases}
use Rattle.fd_shorting.proofs.Paged.{no_phases}
use Rattle.fd_shorting.proofs.page.ShortReportPage.failed.Goals as goal

pub returns : goal.returns
returns c l f number =
    let made = c.args.made.now in
    let s = settle_made made.circuit.now made.hour l made.rounds.now (end_with f c.args.tried)
    (positions_in c.args.at.now) in
    IfOk-weaker c.failed.result _ _ (λ r is. is ∙ nothing_beside its_phases s (no_phases s f c.args.tried))
    (c.failed.ensures l f number)
