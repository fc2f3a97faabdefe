use Rattle.std.proofs.Common.{◌≡◌, ◌∙◌, ◌++◌, ◌∷◌, [], List, ℤ, pos, length, lit<, FitsSigned, rules, ap, sym, subst}
use Rattle.std.specs.Int.{w128}
use Rattle.std.proofs.lemmas.Int.{to_z-of_z}
use Rattle.fd_certfile.specs.Cells.{AreLong, IsPast, with_longs}
use Rattle.fd_certfile.specs.declared.cells.Long.{Long}
use Rattle.fd_certfile.proofs.NearCells.{long_long, long_more}
use Rattle.fd_certfile.proofs.cells.Cells.push_long.Goals as goal
use Rattle.fd_certfile.proofs.cells.Cells.push_long.Goals.{In_ok-push-2}

abbrev stand : ℤ
stand = pos 9223372036854775807

large : IsPast stand
large = lit< tt

abbrev all : In_ok-push-2 → List Long
all c = c.self.inside.longs.items ++ record { place = length c.self.inside.shorts.items; value = c.args.number } ∷ []

pushed : (c : In_ok-push-2) → c.push-2.new.self.items ≡ all c
pushed c =
    let f : FitsSigned w128 c.args.number = c.ranges.number in
    let n : c.self.inside.shorts.len ≡ length c.self.inside.shorts.items = search rules in
    let place = c.len-place.ensures ∙ n in
    let value = to_z-of_z w128 c.args.number f in
    c.in_ok-push-2.ensures.items
    ∙ (λ i. c.self.inside.longs.items ++ record { place = place i; value = value i } ∷ [])

pub invariant_of-self-2 : goal.invariant_of-self-2
invariant_of-self-2 c =
    let shorts = c.self.inside.shorts.items in
    let longs = c.self.inside.longs.items in
    subst (AreLong c.push.new.self.items) (sym (pushed c))
    (subst (λ (xs : List ℤ). AreLong xs (all c)) (sym c.in_ok-push.ensures.items)
    (long_long shorts longs c.self.invariant stand c.args.number c.requires large))

pub returns : goal.returns
returns c =
    let shorts = c.self.inside.shorts.items in
    let longs = c.self.inside.longs.items in
    ap (with_longs c.push.new.self.items) (pushed c)
    ∙ ap (λ (xs : List ℤ). with_longs xs (all c)) c.in_ok-push.ensures.items
    ∙ long_more shorts longs c.self.invariant stand c.args.number c.requires large
    ∙ ap (λ (xs : List ℤ). xs ++ c.args.number ∷ []) c.self.view_is
