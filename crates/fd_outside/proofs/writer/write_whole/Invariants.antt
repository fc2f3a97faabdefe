use Rattle.fd_outside.specs.Told.{events_on}
use Rattle.fd_outside.proofs.KnownBytes.{HasWritten}
use Rattle.fd_outside.proofs.Turns.{WrittenSoFar}
use Rattle.fd_outside.proofs.writer.write_whole.Given as goal

abbrev pub invariant-loop-turn : goal.invariant-loop-turn
invariant-loop-turn g l = record {
  system : WrittenSoFar (events_on l.fn.system) (events_on l.system) l.fn.bytes l.rest l._turn;
  told : HasWritten (g.W.Write.contents l.fn.writer) (g.W.Write.contents l.writer) l.fn.bytes l.rest;
}
