use Rattle.std.proofs.Common.{◌≡◌, nat_abs}
use Rattle.fd_enclosure.specs.fd_exact.States.{part}
use Rattle.fd_enclosure.specs.fd_equations.Rounded.{list_of}
use Rattle.fd_cert.specs.Reaches.{radius_of}
use Rattle.fd_cert.proofs.reach.radii.Given as goal

abbrev pub invariant-loop-weight : goal.invariant-loop-weight
invariant-loop-weight l = l.radii.items ≡ list_of l.weight-index (λ i. radius_of (nat_abs (part l.weights i)) l.fn.reach l.fn.bound)
