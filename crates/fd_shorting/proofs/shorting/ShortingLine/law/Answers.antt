use Rattle.fd_solving.proofs.CallerLemmas.{report_asks}
use Rattle.fd_shorting.proofs.Only.{one_short_step, one_shorted, short_tells}
use Rattle.fd_shorting.proofs.shorting.ShortingLine.law.Goals as goal

pub returns-clause-one_step : goal.returns-clause-one_step
returns-clause-one_step c command state = one_short_step command state

pub returns-clause-one_last : goal.returns-clause-one_last
returns-clause-one_last c state found = one_shorted state found

pub returns-clause-fits : goal.returns-clause-fits
returns-clause-fits c = report_asks

pub returns-clause-told : goal.returns-clause-told
returns-clause-told c state found h told is none e = short_tells told
