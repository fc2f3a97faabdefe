use Rattle.std.proofs.Common.{◌+◌, ◌-◌, ◌*◌, ◌≤◌, ◌<◌, ◌^◌, arith, subst}
use Rattle.std.proofs.Math.Nat.{mul-le-mul}
use Rattle.fd_elements.proofs.Reactive.{root_most}
use Rattle.fd_elements.proofs.powers.reactive_size.Goals as goal

pub returns-clause-more : goal.returns-clause-more
returns-clause-more c =
    let p = c.args.p in
    let pf = c.args.pf in
    let r = c.isqrt.result in
    let least : 10 ^ 7 * 10 ^ 7 ≤ pf * pf = mul-le-mul c.requires.pf_least c.requires.pf_least in
    root_most (p * p * (10 ^ 18 - pf * pf)) (pf * pf) r (omega arith) (subst (λ t. t < (r + 1) * (r + 1)) c.scaled.ensures c.isqrt.ensures.1)
