use Rattle.fd_solving.proofs.solving.StandingLine.take.Goals as goal

pub returns-clause-goes : goal.returns-clause-goes
returns-clause-goes g c none = (c.take_command.ensures.goes none).on
