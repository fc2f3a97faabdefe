use Rattle.std.proofs.Common.{◌≡◌, drop}
use Rattle.fd_certfile.specs.Blocks.{acts_at}
use Rattle.fd_certfile.specs.Lines.{lines_of}
use Rattle.fd_certfile.proofs.ClaimedActs.{are_same}
use Rattle.fd_certfile.proofs.claimed_acts.acts_are.Given as goal

-- all are the same where those that are left are
abbrev pub invariant-loop-made : goal.invariant-loop-made
invariant-loop-made l = are_same l.acts (acts_at (lines_of l.bytes)).0 ≡ are_same (drop l.made-index l.acts) (acts_at (lines_of l.rest)).0
