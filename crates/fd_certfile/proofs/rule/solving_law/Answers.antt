use Rattle.fd_certfile.proofs.SolvingLaws as solving
use Rattle.fd_certfile.proofs.rule.solving_law.Goals as goal

pub returns : goal.returns
returns g c = λ due after. solving.solving_law due after
