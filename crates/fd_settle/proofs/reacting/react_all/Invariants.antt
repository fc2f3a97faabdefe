use Rattle.std.proofs.Common.{map}
use Rattle.fd_sample.specs.fd_queue.Verdicts.{decision}
use Rattle.fd_settle.proofs.Reactions.{IsReacting}
use Rattle.fd_settle.proofs.reacting.react_all.Given as goal

abbrev pub invariant-loop-control : goal.invariant-loop-control
invariant-loop-control l = IsReacting l.clock l.fn.states (map decision l.verdicts) l.control l.fn.queue l.queue l.states
