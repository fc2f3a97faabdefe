use Rattle.std.proofs.Common.{arith, inr, refl}
use Rattle.fd_source.proofs.Squares.{keeps_within, keeps_reactance}
use Rattle.fd_source.proofs.resistance.greatest_resistance.Goals as goal

pub loop-low-init : goal.loop-low-init
loop-low-init c =
    let b = c.args.limit.now in
    record {
      order = omega arith;
      top = omega arith;
      holding = inr refl;
      most = λ m w. keeps_within b.r b.x b.ratio b.size m w;
    }

pub returns-clause-reactance : goal.returns-clause-reactance
returns-clause-reactance c =
    let b = c.args.limit.now in
    keeps_reactance b.r b.x b.ratio b.size c.loop-low.low c.loop-low.invariant.holding
