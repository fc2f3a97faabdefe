use Rattle.std.proofs.Common.{◌≡◌, ◌∙◌, ◌<◌, ◌^◌, ◌*ℤ◌, length, drop, pos, nat_abs, ap, subst, sym, arith, FitsSigned, rules}
use Rattle.std.specs.Int.{w64}
use Rattle.std.proofs.lemmas.Int.{to_z-of_z}
use Rattle.fd_triangles.specs.Factors.{parts_in}
use Rattle.fd_triangles.specs.Rows.{entry_at}
use Rattle.fd_triangles.specs.Steps.{Parts}
use Rattle.fd_triangles.specs.fd_derived.fd_factors.fd_exact.States.{part}
use Rattle.fd_substitution.specs.Sums.{IsInside, IsMade, raised}
use Rattle.fd_substitution.proofs.Rows.{parts_read}
use Rattle.fd_substitution.proofs.raising.upper_at.Goals as goal

pub raised-requires-clause-inside : goal.raised-requires-clause-inside
raised-requires-clause-inside c =
    let rows = c.args.rows.now in
    let t_in : c.args.t < length rows = omega (arith, c.requires.ready.long, c.requires.place) in
    let here : (parts_in rows c.args.t).left ≡ c.deref.result.now =
    ap (λ (p : Parts). p.left) (parts_read rows c.args.t c.index-rows-t.result t_in) ∙ sym c.deref.ensures.value in
    subst (λ n. IsInside n (drop 1 c.deref.result.now)) (sym c.requires.long)
    (subst (λ row. IsInside (length c.args.order.now) (drop 1 row)) here
    (c.requires.ready.rest c.args.t c.requires.place))

pub raised-requires-clause-pivot : goal.raised-requires-clause-pivot
raised-requires-clause-pivot c =
    let rows = c.args.rows.now in
    let t_in : c.args.t < length rows = omega (arith, c.requires.ready.long, c.requires.place) in
    let here : (parts_in rows c.args.t).left ≡ c.deref.result.now =
    ap (λ (p : Parts). p.left) (parts_read rows c.args.t c.index-rows-t.result t_in) ∙ sym c.deref.ensures.value in
    subst (λ row. 0 < nat_abs (entry_at row 0).units) here (c.requires.ready.pivots c.args.t c.requires.place)

pub returns : goal.returns
returns c =
    let rows = c.args.rows.now in
    let x = part c.args.numbers.now in
    let n = part c.args.lower.now c.args.t in
    let t_in : c.args.t < length rows = omega (arith, c.requires.ready.long, c.requires.place) in
    let here : (parts_in rows c.args.t).left ≡ c.deref.result.now =
    ap (λ (p : Parts). p.left) (parts_read rows c.args.t c.index-rows-t.result t_in) ∙ sym c.deref.ensures.value in
    let fn : FitsSigned w64 n = search rules in
    let left = c.deref.result.now in
    let made : IsMade (pos (2 ^ 40) *ℤ n) (drop 1 left) x (raised n (drop 1 left) x (entry_at left 0).units)
    c.raised.result =
    simp to_z-of_z at c.raised.ensures in
    subst (λ row. IsMade (pos (2 ^ 40) *ℤ n) (drop 1 row) x (raised n (drop 1 row) x (entry_at row 0).units)
    c.raised.result) (sym here) made
