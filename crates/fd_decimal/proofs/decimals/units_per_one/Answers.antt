use Rattle.std.proofs.Common.{◌<◌, ℕ, subst, sym}
use Rattle.fd_decimal.proofs.Digits.{power_positive}
use Rattle.fd_decimal.proofs.decimals.units_per_one.Goals as goal

pub returns-clause-positive : goal.returns-clause-positive
returns-clause-positive c = subst (λ (one : ℕ). 0 < one) (sym c.pow.ensures) (power_positive c.args.places)
