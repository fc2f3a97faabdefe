use Rattle.std.proofs.Common.{[], ap, sym}
use Rattle.fd_pages.specs.fd_outcome.Events.{finishes}
use Rattle.fd_pages.proofs.CallerLemmas.fd_outcome.{exactly_this}
use Rattle.fd_solving.proofs.Handed.{ends_closed}
use Rattle.fd_solving.proofs.Tests.{one_step}
use Rattle.fd_solving.proofs.solving.StandingLine.law.Goals as goal

pub returns-clause-one_step : goal.returns-clause-one_step
returns-clause-one_step g c command state = one_step command state

pub returns-clause-one_last : goal.returns-clause-one_last
returns-clause-one_last g c state found = exactly_this (finishes [])

pub returns-clause-told : goal.returns-clause-told
returns-clause-told g c state found h told is none = ends_closed g.P.Page.style told h is
