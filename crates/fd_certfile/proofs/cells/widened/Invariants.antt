use Rattle.std.proofs.Common.{◌≡◌, take}
use Rattle.fd_certfile.proofs.cells.widened.Given as goal

abbrev pub invariant-loop-short : goal.invariant-loop-short
invariant-loop-short l = l.numbers.items ≡ take l.short-index l.shorts
