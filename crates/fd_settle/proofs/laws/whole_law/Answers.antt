use Rattle.fd_settle.proofs.Histories.{whole}
use Rattle.fd_settle.proofs.laws.whole_law.Goals as goal

pub returns : goal.returns
returns g c = λ k. whole (g.S.Sampled.holds k) (g.S.Sampled.of_ball k) (g.S.Sampled.of_state k)
