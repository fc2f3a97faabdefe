use Rattle.fd_certfile.proofs.Verdicts as answers
use Rattle.fd_certfile.proofs.rule.answers_law.Goals as goal

pub returns : goal.returns
returns g c = λ due after. answers.answers_law due after
