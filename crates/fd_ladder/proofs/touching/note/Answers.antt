use Rattle.std.proofs.Common.{◌≡◌, cond, Some, is_some, sym, ap, subst, ◌∙◌, ◌++◌, ◌∷◌, []}
use Rattle.dss_layout.specs.Nodes.{same_node}
use Rattle.std.specs.Map.{lookup}
use Rattle.fd_ladder.specs.Due.{Notes, places_of}
use Rattle.fd_ladder.proofs.Noting.{place_noted}
use Rattle.fd_ladder.proofs.touching.note.Goals as goal

pub returns-in-Some : goal.returns-in-Some
returns-in-Some c =
    place_noted c.args.touching.now.entries _ c.args.node.now c.args.place c.push.new.self
    (c.in_ok-push.ensures.items ∙ ap (λ v. places_of v ++ c.args.place ∷ []) c.in-Some.ensures.value)
    ((c.get_mut.follows.holds c.push.new.self).3 (ap is_some (sym c.in-Some.ensures.value))).0

pub returns : goal.returns
returns c =
    let before = c.args.touching.now.entries in
    let cases = c.in_ok-clone.ensures.cases in
    let key : c.in_ok-clone.field-0 ≡ c.args.node.now = (λ i. record { bus = cases.0 i; number = cases.1 i }) in
    subst (λ k. Notes (λ other. same_node other k) c.args.place before c.insert.new.self.entries) key
    (place_noted before c.insert.new.self.entries c.in_ok-clone.field-0 c.args.place c.push-2.new.self
    (c.in_ok-push-2.ensures.items
    ∙ ap (λ xs. xs ++ c.args.place ∷ []) c.new-places.ensures.items
    ∙ ap (λ v. places_of v ++ c.args.place ∷ []) c.in_default.ensures.value
    ∙ ap (λ k. places_of (lookup (same_node k) before) ++ c.args.place ∷ []) (sym key))
    (λ q.
    c.in_ok-insert.ensures.updates.0 q
    ∙ (λ i. cond (same_node c.in_ok-clone.field-0 q) (Some c.push-2.new.self) (lookup (same_node q) (c.get_mut.follows.holds-at-none i).entries))))
