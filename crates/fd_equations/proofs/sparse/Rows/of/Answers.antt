use Rattle.std.proofs.Common.{◌∙◌, All, subst, sym}
use Rattle.std.specs.List.{Contains}
use Rattle.fd_pattern.specs.Conditions.{AreLinear}
use Rattle.fd_pattern.specs.PatternPlaces.{places_of}
use Rattle.fd_pattern.specs.Patterns.{IsInside}
use Rattle.fd_pattern.specs.Terminals.{IsConnected}
use Rattle.fd_pattern.proofs.CallerLemmas.{all_inside}
use Rattle.fd_equations.proofs.sparse.Rows.of.Goals as goal

pub reaching-requires-clause-inside : goal.reaching-requires-clause-inside
reaching-requires-clause-inside c =
    let ts = c.deref.ensures.value in
    let us = c.deref-2.ensures.value in
    subst (All (IsInside c.args.size)) (sym (c.in_ok-places.ensures ∙ (λ i. places_of (ts i) (us i))))
    (all_inside c.args.size c.args.terms.items c.args.loads.items c.requires.linear.each c.requires.loads)

pub replace-requires : goal.replace-requires
replace-requires c =
    let ts = c.deref.ensures.value in
    let us = c.deref-2.ensures.value in
    let size = sym c.in_ok-rows.ensures.size in
    record {
      held = record {
        linear = subst (λ n. AreLinear n c.args.terms.items) size c.requires.linear;
        loads = subst (λ n. All (IsConnected n) c.args.loads.items) size c.requires.loads;
        few = c.requires.few;
        reached = subst (All (Contains c.in_ok-rows.rows.places)) (c.in_ok-places.ensures ∙ (λ i. places_of (ts i) (us i))) c.in_ok-rows.ensures.places;
      };
    }
