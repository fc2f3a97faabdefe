use Rattle.std.proofs.Common.{◌≡◌, ◌∙◌, ◌≤◌, ◌++◌, ◌^◌, ℕ, ℤ, List, length, take, drop, ap, subst, sym, arith, rules}
use Rattle.std.proofs.lemmas.List.{take-append-le, take_all}
use Rattle.fd_triangles.specs.fd_derived.fd_factors.fd_exact.Rounding.{near_div}
use Rattle.fd_substitution.specs.Substitution.{AreLower, AreMoves, AreUpper, HasEnded}
use Rattle.fd_substitution.proofs.moving.step.Goals as goal

kept : (n : ℕ) (new old : List ℤ) → n ≡ length new → take n (new ++ drop (length new) old) ≡ new
kept n new old e =
    let h : n ≤ length new = omega arith in
    let g : length new ≤ n = omega arith in
    rw take-append-le (take_all n new g)

pub returns-in_err-moves : goal.returns-in_err-moves
returns-in_err-moves c =
    let rows = c.args.rows.now in
    let order = c.args.order.now in
    let right = c.args.right.now in
    let on : AreLower rows order right c.deref.result.now =
    subst (AreLower rows order right) (sym c.deref.ensures.value) c.in_ok-lower.ensures in
    let h : HasEnded rows order right c.in_err-moves.field-0.0 = c.in_err-moves.ensures right on in
    search (rules, h)

pub returns : goal.returns
returns c =
    let rows = c.args.rows.now in
    let order = c.args.order.now in
    let right = c.args.right.now in
    let new = c.make_whole.new.numbers in
    let on : AreLower rows order right c.deref.result.now =
    subst (AreLower rows order right) (sym c.deref.ensures.value) c.in_ok-lower.ensures in
    let are : AreUpper rows order right c.deref_mut.result.now =
    subst (AreUpper rows order right) (sym c.deref_mut.ensures.value) (c.in_ok-moves.ensures right on) in
    let long : length new ≡ length order = c.make_whole.auto.numbers ∙ are.long in
    subst (AreMoves rows order right)
    (sym (kept c.in_ok-moves.moves.len new c.in_ok-moves.moves.items
    (omega (arith, c.make_whole.auto.numbers, c.deref_mut.ensures.len))))
    (record {
      lower_within = on.within;
      upper_within = are.within;
      long = long;
      each = λ j l. c.make_whole.ensures j ∙ ap (λ z. near_div z (2 ^ 20)) (are.each j);
    })
