use Rattle.std.proofs.Common.{◌≡◌, take}
use Rattle.std.specs.List.{fold}
use Rattle.fd_certfile.specs.Cells.{with_long}
use Rattle.fd_certfile.proofs.cells.write.Given as goal

abbrev pub invariant-loop-long : goal.invariant-loop-long
invariant-loop-long l = l.numbers ≡ fold with_long l.initial.numbers (take l.long-index l.longs)
