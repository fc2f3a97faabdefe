use Rattle.fd_arith.proofs.cx.CxSub.sub.Goals as goal

pub returns : goal.returns
returns g c =
    let difference = g.met.T.Enclose.minus_is in
    λ i. record { re = difference _ _ _ c.sub.ensures i; im = difference _ _ _ c.sub-2.ensures i }
