use Rattle.std.proofs.Common.{◌∙◌, Err, ap, subst}
use Rattle.std.specs.List.Sorted.{IsBinarySearchResult}
use Rattle.fd_pattern.specs.Patterns.{IsRising, IsSlot, PatternView}
use Rattle.fd_pattern.proofs.Order.{no_slot, only_slot, place_cmp, slot_of}
use Rattle.fd_pattern.proofs.pattern.Pattern.find.Goals as goal

pub returns-in-Err-clause-none : goal.returns-in-Err-clause-none
returns-in-Err-clause-none c =
    let same = c.deref.ensures.value ∙ ap (λ (v : PatternView). v.places) c.self.view_is in
    no_slot c.args.self.now.places c.args.row c.args.col c.in-Err.field-0 (subst (λ v. IsRising v.places) c.self.view_is c.self.invariant.0.rising)
    (subst (λ l. IsBinarySearchResult (λ y. place_cmp y (c.args.row, c.args.col)) l (Err c.in-Err.field-0)) same c.in-Err.ensures.position)

pub returns-in-Ok-clause-some : goal.returns-in-Ok-clause-some
returns-in-Ok-clause-some c =
    let same = c.deref.ensures.value ∙ ap (λ (v : PatternView). v.places) c.self.view_is in
    subst (λ l. IsSlot l c.args.row c.args.col c.in-Ok.k) same
    (slot_of c.deref.result.now c.args.row c.args.col c.in-Ok.k c.in-Ok.ensures.bound c.in-Ok.ensures.position)

pub returns-in-Ok-clause-only : goal.returns-in-Ok-clause-only
returns-in-Ok-clause-only c = λ j s.
    only_slot c.args.self.now.places c.args.row c.args.col j c.in-Ok.k
    (subst (λ v. IsRising v.places) c.self.view_is c.self.invariant.0.rising) s (returns-in-Ok-clause-some c)
