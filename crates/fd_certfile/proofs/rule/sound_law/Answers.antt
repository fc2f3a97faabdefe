use Rattle.fd_certfile.proofs.Judged as judged
use Rattle.fd_certfile.proofs.rule.sound_law.Goals as goal

pub returns : goal.returns
returns c = judged.sound_law
