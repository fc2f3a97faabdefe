use Rattle.std.proofs.Common.{◌≡◌, ◌∙◌, Some, rules, subst}
use Rattle.std.specs.Prelude.{slice_get}
use Rattle.std.specs.List.{list_any}
use Rattle.fd_queue.specs.Machine.{rule_of}
use Rattle.fd_queue.specs.Queue.{QueueView}
use Rattle.fd_queue.proofs.Dues.{due_by_first}
use Rattle.fd_queue.proofs.queue.Queue.is_due.Goals as goal

pub returns-in-Some : goal.returns-in-Some
returns-in-Some c =
    let first : slice_get c.self.inside.entries.items 0 ≡ Some c.in-Some.first.now = search rules in
    c.is_due.ensures
    ∙ subst (λ (k : QueueView). (rule_of c.args.timing).is_due c.args.now c.in-Some.first.now ≡ list_any ((rule_of c.args.timing).is_due c.args.now) k.entries)
    c.self.view_is (due_by_first c.args.timing c.args.now c.in-Some.first.now c.self.inside.entries.items c.self.invariant.sorted first)
