use Rattle.fd_outcome.specs.Events.{settle}
use Rattle.fd_outcome.specs.Pages.{report_texts}
use Rattle.fd_pages.proofs.Rounds.{all_last}
use Rattle.fd_pages.proofs.report.ReportPage.law.Goals as goal

pub returns-clause-parts : goal.returns-clause-parts
returns-clause-parts c s = all_last s (report_texts (settle s))
