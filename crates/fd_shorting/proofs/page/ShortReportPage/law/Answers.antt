use Rattle.fd_solving.specs.fd_outcome.Events.{settle}
use Rattle.fd_solving.proofs.CallerLemmas.{all_last}
use Rattle.fd_shorting.specs.Pages.{short_report}
use Rattle.fd_shorting.proofs.page.ShortReportPage.law.Goals as goal

pub returns-clause-parts : goal.returns-clause-parts
returns-clause-parts c s = all_last s (short_report.texts_in (settle s))
