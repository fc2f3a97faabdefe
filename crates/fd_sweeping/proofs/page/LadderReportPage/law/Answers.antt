use Rattle.fd_solving.specs.fd_outcome.Events.{settle}
use Rattle.fd_solving.proofs.CallerLemmas.{all_last}
use Rattle.fd_sweeping.specs.Pages.{ladder_report}
use Rattle.fd_sweeping.proofs.page.LadderReportPage.law.Goals as goal

pub returns-clause-parts : goal.returns-clause-parts
returns-clause-parts c s = all_last s (ladder_report.texts_in (settle s))
