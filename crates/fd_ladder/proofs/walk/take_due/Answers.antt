use Rattle.std.proofs.Common.{◌≡◌, ◌∙◌, ap, sym, cond, ◌++◌, ◌∷◌, [], slice_get, Some}
use Rattle.std.proofs.lemmas.Result.{on_ok_weaker}
use Rattle.std.proofs.lemmas.Option.{slice_get-get_or}
use Rattle.fd_ladder.proofs.Waking.{taken_up, wakes_both}
use Rattle.fd_ladder.proofs.walk.take_due.Goals as goal

pub returns-clause-due : goal.returns-clause-due
returns-clause-due c =
    let noted = c.args.touching.now.entries in
    let section = c.index-sections-place.result in
    let order = c.args.order.now.keys in
    let found : slice_get c.args.sections.now c.args.place ≡ Some section =
    slice_get-get_or c.args.sections.now c.args.place section c.requires.place_in ∙ ap Some (sym c.index-sections-place.is) in
    let more = c.in_ok-insert.ensures.keys
    ∙ ap (λ b. cond b order (order ++ section.element ∷ [])) (sym c.contains.ensures ∙ c.if-contains.false) in
    on_ok_weaker c.reach_all-2.result
    (λ d.
    taken_up c.args.sections.now noted c.args.due.now c.remove.new.self c.reach_all-2.new.due c.args.place section
    c.args.nodes.now.keys c.reach_all-2.new.nodes.keys order c.insert.new.self.keys c.requires.touching
    found more c.remove.ensures.updates.0 c.requires.due
    (wakes_both noted _ _ _ _ _ _ c.in_ok-reach_all.ensures.due d))
    c.reach_all-2.ensures.due
