use Rattle.std.proofs.Common.{◌≡◌, ◌∙◌, ap, sym, cond, ◌++◌, ◌∷◌, []}
use Rattle.std.proofs.lemmas.Result.{on_ok_weaker}
use Rattle.indexmap.specs.IndexSet.{insert_key}
use Rattle.dss_layout.specs.Nodes.{same_node}
use Rattle.fd_ladder.proofs.Waking.{wakes_one}
use Rattle.fd_ladder.proofs.walk.reach.Goals as goal

pub returns-clause-due : goal.returns-clause-due
returns-clause-due c =
    let before = c.args.nodes.now.keys in
    let cases = c.in_ok-clone.ensures.cases in
    let key : c.in_ok-clone.field-0 ≡ c.args.node.now = (λ i. record { bus = cases.0 i; number = cases.1 i }) in
    let new = c.in_ok-insert.ensures.keys
    ∙ ap (insert_key same_node before) key
    ∙ ap (λ b. cond b before (before ++ c.args.node.now ∷ [])) (sym c.contains.ensures ∙ c.if-contains.false) in
    on_ok_weaker c.wake.result
    (λ d. wakes_one c.args.touching.now.entries before _ c.args.node.now c.args.due.now c.wake.new.due new d) c.wake.ensures
