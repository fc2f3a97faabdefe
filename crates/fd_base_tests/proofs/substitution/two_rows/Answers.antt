use Rattle.std.proofs.Common.{◌≡◌, ◌∙◌, ◌<◌, ◌++◌, [], ◌∷◌, nat_abs, ap, sym, subst, arith, FitsSigned}
use Rattle.std.specs.Int.{w64}
use Rattle.std.proofs.lemmas.Int.{to_z-of_z}
use Rattle.fd_bounds.specs.fd_substitution.Substitution.{CanStep}
use Rattle.fd_bounds.specs.fd_derived.declared.entries.Entry.{Entry}
use Rattle.fd_base_tests.specs.Crossed.{crossed}
use Rattle.fd_base_tests.proofs.Crossed.{two_step}
use Rattle.fd_base_tests.proofs.substitution.two_rows.Goals as goal

pub returns : goal.returns
returns c =
    let a = c.in_ok-row.field-0 in
    let b = c.in_ok-row-2.field-0 in
    let fp : FitsSigned w64 c.args.first = c.ranges.first in
    let fq : FitsSigned w64 c.args.second = c.ranges.second in
    let p : c.at.result.units ≡ c.args.first = simp to_z-of_z at (ap (λ (e : Entry). e.units) c.at.ensures) in
    let q : c.at-4.result.units ≡ c.args.second = simp to_z-of_z at (ap (λ (e : Entry). e.units) c.at-4.ensures) in
    let items = c.in_ok-push-2.ensures.items
    ∙ ap (λ l. l ++ b ∷ []) (c.in_ok-push.ensures.items ∙ ap (λ l. l ++ a ∷ []) c.new-rows.ensures.items) in
    subst (λ l. CanStep l crossed) (sym items)
    (two_step a b c.at.result c.at-2.result c.at-3.result c.at-4.result c.in_ok-row.ensures c.in_ok-row-2.ensures
    (omega (arith, ap (λ (e : Entry). e.place) c.at-2.ensures)) (omega (arith, ap (λ (e : Entry). e.place) c.at-3.ensures))
    (subst (λ z. 0 < nat_abs z) (sym p) c.requires.first) (subst (λ z. 0 < nat_abs z) (sym q) c.requires.second))
