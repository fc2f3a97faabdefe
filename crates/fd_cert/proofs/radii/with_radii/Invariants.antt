use Rattle.std.proofs.Common.{◌≡◌}
use Rattle.fd_enclosure.specs.fd_equations.Amounts.{cell_at}
use Rattle.fd_enclosure.specs.fd_equations.Rounded.{list_of}
use Rattle.fd_enclosure.specs.Sound.{number_at}
use Rattle.fd_cert.specs.Places.{radius_cell}
use Rattle.fd_cert.proofs.radii.with_radii.Given as goal

abbrev pub invariant-loop-k : goal.invariant-loop-k
invariant-loop-k l = l.made.items ≡ list_of l.k (λ k. radius_cell (cell_at l.cells k) (number_at l.radii k))
