use Rattle.fd_settle.proofs.Histories.{history}
use Rattle.fd_settle.proofs.laws.history_law.Goals as goal

pub returns : goal.returns
returns g c = λ k. history (g.S.Sampled.holds k) (g.S.Sampled.of_ball k) (g.S.Sampled.of_state k)
