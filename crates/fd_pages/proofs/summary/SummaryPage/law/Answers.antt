use Rattle.std.proofs.Common.{[]}
use Rattle.fd_pages.proofs.Rounds.{all_last}
use Rattle.fd_pages.proofs.summary.SummaryPage.law.Goals as goal

pub returns-clause-parts : goal.returns-clause-parts
returns-clause-parts c s = all_last s []
