use Rattle.std.proofs.Common.{◌≡◌, ◌++◌, drop}
use Rattle.std.specs.List.{concat}
use Rattle.fd_gen.specs.fd_outside.Emitted.{pieces_of}
use Rattle.fd_bench.proofs.feeder.joined.Given as goal

-- the bytes so far, and those of the records that are left
abbrev pub invariant-loop-record : goal.invariant-loop-record
invariant-loop-record l = l.text.items ++ concat (pieces_of (drop l.record-index l.records)) ≡ concat (pieces_of l.records)
