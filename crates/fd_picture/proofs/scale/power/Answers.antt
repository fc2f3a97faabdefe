use Rattle.std.proofs.Common.{◌≤◌, ◌^◌, ℕ, subst, sym}
use Rattle.fd_picture.proofs.Powers.{power_most}
use Rattle.fd_picture.proofs.scale.power.Goals as goal

pub returns-clause-most : goal.returns-clause-most
returns-clause-most c = subst (λ (one : ℕ). one ≤ 10 ^ 18) (sym c.pow.ensures) (power_most c.args.decade 18 c.requires)
