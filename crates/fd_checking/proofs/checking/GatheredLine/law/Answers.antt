use Rattle.fd_checking.proofs.Gathering.{one_check_step, one_judged}
use Rattle.fd_checking.proofs.Judging.{judged_tells}
use Rattle.fd_checking.proofs.checking.GatheredLine.law.Goals as goal

pub returns-clause-one_step : goal.returns-clause-one_step
returns-clause-one_step c command state = one_check_step command state

pub returns-clause-one_last : goal.returns-clause-one_last
returns-clause-one_last c state found = one_judged state found

pub returns-clause-told : goal.returns-clause-told
returns-clause-told c state found h told is none = judged_tells state found h told is none
