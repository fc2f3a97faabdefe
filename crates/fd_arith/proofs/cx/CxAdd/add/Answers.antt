use Rattle.fd_arith.proofs.cx.CxAdd.add.Goals as goal

pub returns : goal.returns
returns g c =
    let sum = g.met.T.Enclose.plus_is in
    λ i. record { re = sum _ _ _ c.add.ensures i; im = sum _ _ _ c.add-2.ensures i }
