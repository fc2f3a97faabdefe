use Rattle.std.proofs.Common.{◌<◌, length}
use Rattle.std.specs.Io.KnownBytes.{Consumes}
use Rattle.fd_outside.specs.Told.{events_on}
use Rattle.fd_outside.proofs.Turns.{ReadSoFar}
use Rattle.fd_outside.proofs.folder.read_whole.Given as goal

abbrev pub invariant-loop-turn : goal.invariant-loop-turn
invariant-loop-turn g l = record {
  system : ReadSoFar (events_on l.fn.system) (events_on l.system) l.bytes.items l._turn;
  told : Consumes (g.F.Read.remaining l.fn.file) (g.F.Read.remaining l.file) l.bytes.items;
  part : 0 < length l.part;
}
