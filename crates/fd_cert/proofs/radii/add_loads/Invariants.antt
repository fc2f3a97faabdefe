use Rattle.fd_enclosure.specs.Sound.{number_at}
use Rattle.fd_cert.proofs.Raising.{IsSoFar}
use Rattle.fd_cert.proofs.radii.add_loads.Given as goal

abbrev pub invariant-loop-load : goal.invariant-loop-load
invariant-loop-load l = IsSoFar l.pattern.places l.initial.radii l.radii (number_at l.boxes) l.x l.loads l.load-index
