use Rattle.std.proofs.Common.{◌*◌, ◌≤◌, ◌^◌, nat_abs, sym, subst, FitsSigned, rules, lit≤}
use Rattle.std.specs.Int.{w128}
use Rattle.std.proofs.lemmas.Int.{to_z-of_z}
use Rattle.fd_line.proofs.totals.capacitance.Goals as goal

pub returns-in-Sequence-clause-within : goal.returns-in-Sequence-clause-within
returns-in-Sequence-clause-within c =
    let f : FitsSigned w128 c.along.result = search rules in
    subst (λ t. nat_abs t ≤ 16093440 * 10 ^ 16) (sym (to_z-of_z w128 c.along.result f)) (c.along.ensures.within (16093440 * 10 ^ 16) (lit≤ tt))

pub returns-in-Matrix-clause-within : goal.returns-in-Matrix-clause-within
returns-in-Matrix-clause-within c =
    let f : FitsSigned w128 c.along-in-Matrix.result = search rules in
    subst (λ t. nat_abs t ≤ 16093440 * 10 ^ 16) (sym (to_z-of_z w128 c.along-in-Matrix.result f))
    (c.along-in-Matrix.ensures.within (16093440 * 10 ^ 16) (lit≤ tt))
