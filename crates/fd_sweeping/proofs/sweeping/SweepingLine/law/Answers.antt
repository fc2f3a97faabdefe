use Rattle.fd_solving.proofs.CallerLemmas.{report_asks}
use Rattle.fd_sweeping.proofs.Only.{one_done, one_sweeping}
use Rattle.fd_sweeping.proofs.sweeping.SweepingLine.law.Goals as goal

pub returns-clause-one_step : goal.returns-clause-one_step
returns-clause-one_step c command state = one_sweeping command state

pub returns-clause-one_last : goal.returns-clause-one_last
returns-clause-one_last c state found = one_done state found

pub returns-clause-fits : goal.returns-clause-fits
returns-clause-fits c = report_asks

pub returns-clause-told : goal.returns-clause-told
returns-clause-told c state found h told is none e = cc told
