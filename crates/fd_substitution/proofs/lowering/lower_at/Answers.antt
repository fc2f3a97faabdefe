use Rattle.std.proofs.Common.{◌≡◌, ◌∙◌, ◌<◌, length, pos, ap, subst, sym, arith, FitsSigned, rules}
use Rattle.std.specs.Int.{w128}
use Rattle.std.proofs.lemmas.Int.{to_z-of_z}
use Rattle.fd_triangles.specs.Elimination.{pair_at}
use Rattle.fd_triangles.specs.Steps.{Parts}
use Rattle.fd_triangles.specs.fd_derived.fd_factors.fd_exact.States.{part}
use Rattle.fd_substitution.specs.Sums.{IsInside, IsMade, lowered}
use Rattle.fd_substitution.specs.Substitution.{others_at}
use Rattle.fd_substitution.proofs.Rows.{parts_read}
use Rattle.fd_substitution.proofs.lowering.lower_at.Goals as goal

pub lowered-requires-clause-inside : goal.lowered-requires-clause-inside
lowered-requires-clause-inside c =
    let rows = c.args.rows.now in
    let t_in : c.args.t < length rows = omega (arith, c.requires.ready.long, c.requires.place) in
    let here : others_at rows c.args.t ≡ c.deref.result.now =
    ap (λ (p : Parts). p.others) (parts_read rows c.args.t c.index-rows-t.result t_in) ∙ sym c.deref.ensures.value in
    subst (λ n. IsInside n c.deref.result.now) (sym c.requires.long)
    (subst (IsInside (length c.args.order.now)) here (c.requires.ready.others c.args.t c.requires.place))

pub returns : goal.returns
returns c =
    let rows = c.args.rows.now in
    let x = part c.args.numbers.now in
    let b = part c.args.right.now (pair_at c.args.order.now c.args.t).equation in
    let t_in : c.args.t < length rows = omega (arith, c.requires.ready.long, c.requires.place) in
    let here : others_at rows c.args.t ≡ c.deref.result.now =
    ap (λ (p : Parts). p.others) (parts_read rows c.args.t c.index-rows-t.result t_in) ∙ sym c.deref.ensures.value in
    let fb : FitsSigned w128 b = search rules in
    let made : IsMade (pos 0) c.deref.result.now x (lowered b c.deref.result.now x) c.lowered.result =
    simp to_z-of_z at c.lowered.ensures in
    subst (λ row. IsMade (pos 0) row x (lowered b row x) c.lowered.result) (sym here) made
