use Rattle.fd_certfile.proofs.Upgrading as upgrades
use Rattle.fd_certfile.proofs.upgrades.upgrade_law.Goals as goal

pub returns : goal.returns
returns g c = λ due after. upgrades.upgrade_law due after
