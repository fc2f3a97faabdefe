use Rattle.std.proofs.Common.{sym, ◌∙◌}
use Rattle.fd_queue.proofs.Kept.{none_kept, none_left, same_kept, same_left, other_kept, other_left, more_room}
use Rattle.fd_queue.proofs.queue.Queue.keep.Goals as goal

pub returns-in-None-clause-entries : goal.returns-in-None-clause-entries
returns-in-None-clause-entries c =
    none_kept c.args.control c.args.wanted c.args.self.now.entries c.in-None.ensures.entry

pub returns-in-None-clause-left : goal.returns-in-None-clause-left
returns-in-None-clause-left c = none_left c.args.control c.args.self.now.entries c.in-None.ensures.entry

pub returns-in-None-clause-spare : goal.returns-in-None-clause-spare
returns-in-None-clause-spare c =
    λ room e. room (sym (none_left c.args.control c.args.self.now.entries c.in-None.ensures.entry))

pub returns-then-goes-clause-entries : goal.returns-then-goes-clause-entries
returns-then-goes-clause-entries c =
    same_kept c.args.control c.args.wanted c.in-Some.entry c.args.self.now.entries c.in-Some.ensures.queue.one_each
    c.in-Some.ensures.entry (sym c.goes.ensures ∙ c.if-goes.true)

pub returns-then-goes-clause-left : goal.returns-then-goes-clause-left
returns-then-goes-clause-left c =
    same_left c.args.control c.in-Some.entry c.args.self.now.entries c.in-Some.ensures.entry

pub returns-else-goes-clause-entries : goal.returns-else-goes-clause-entries
returns-else-goes-clause-entries c =
    other_kept c.args.control c.args.wanted c.in-Some.entry c.args.self.now.entries c.cancel.new.self.entries
    c.in-Some.ensures.queue.one_each c.in-Some.ensures.entry (sym c.goes.ensures ∙ c.if-goes.false)
    c.cancel.ensures.entries

pub returns-else-goes-clause-left : goal.returns-else-goes-clause-left
returns-else-goes-clause-left c =
    other_left c.args.control c.args.self.now.entries c.cancel.new.self.entries c.cancel.ensures.entries

pub returns-else-goes-clause-spare : goal.returns-else-goes-clause-spare
returns-else-goes-clause-spare c =
    λ room e. more_room c.args.control c.in-Some.entry c.args.self.now.entries c.cancel.new.self.entries
    c.args.self.now.spare c.cancel.new.self.spare c.in-Some.ensures.entry c.cancel.ensures.entries c.cancel.ensures.room
