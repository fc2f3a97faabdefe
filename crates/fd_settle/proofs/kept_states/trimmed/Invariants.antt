use Rattle.std.proofs.Common.{◌≡◌, length}
use Rattle.fd_settle.specs.KeptStates.{bytes_in}
use Rattle.fd_settle.proofs.Storing.{IsTrimming}
use Rattle.fd_settle.proofs.kept_states.trimmed.Given as goal

abbrev pub decreases-loop-bytes : goal.decreases-loop-bytes
decreases-loop-bytes l = length l.states.items

abbrev pub invariant-loop-bytes : goal.invariant-loop-bytes
invariant-loop-bytes l =
    record {
      bytes : l.bytes ≡ bytes_in l.states.items;
      gone : IsTrimming l.fn.states.items l.states.items;
    }
