use Rattle.fd_cert.specs.Parts.{AreFront}
use Rattle.fd_cert.proofs.parted.parts_of.Given as goal

abbrev pub invariant-loop-place : goal.invariant-loop-place
invariant-loop-place l = AreFront l.numbers l.place l.lows.items l.highs.items
