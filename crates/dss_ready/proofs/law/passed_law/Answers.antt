use Rattle.dss_ready.proofs.CallerLemmas.{passed}
use Rattle.dss_ready.proofs.law.passed_law.Goals as goal

pub returns : goal.returns
returns c = passed
