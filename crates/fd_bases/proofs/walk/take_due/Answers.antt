use Rattle.std.proofs.Common.{◌∙◌, ap, sym, slice_get}
use Rattle.std.proofs.lemmas.Result.{on_ok_weaker}
use Rattle.fd_bases.proofs.Worklist.{none_woken, some_woken}
use Rattle.fd_bases.proofs.walk.take_due.Goals as goal

pub returns-in-Some-clause-due : goal.returns-in-Some-clause-due
returns-in-Some-clause-due c =
    let s = c.take_at.new.reached.entries in
    let new = ap (slice_get s) (sym c.len-before.ensures.len) ∙ sym c.in-Some.ensures.entry in
    on_ok_weaker c.wake.result
    (λ d.
    some_woken c.args.elements.now.entries c.args.touching.now.entries c.args.due.now c.remove.new.self c.wake.new.due
    c.args.place c.args.reached.now.entries s _ _ c.requires.touching c.requires.due c.remove.ensures.updates.0
    c.in_ok-take_at.ensures new d)
    c.wake.ensures

pub returns-in-None-clause-due : goal.returns-in-None-clause-due
returns-in-None-clause-due c =
    let s = c.take_at.new.reached.entries in
    let none = ap (slice_get s) (sym c.len-before.ensures.len) ∙ sym c.in-None.ensures.entry in
    none_woken c.args.elements.now.entries c.args.due.now c.remove.new.self c.args.place c.args.reached.now.entries s
    c.requires.due c.remove.ensures.updates.0 c.in_ok-take_at.ensures none
