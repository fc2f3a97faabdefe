use Rattle.std.proofs.Common.{◌≡◌, max}
use Rattle.fd_solving.specs.fd_enclosure.Sound.{number_at}
use Rattle.fd_solving.specs.fd_equations.Rounded.{list_of}
use Rattle.fd_sweeping.proofs.beside.greater_of.Given as goal

abbrev pub invariant-loop-row : goal.invariant-loop-row
invariant-loop-row l = l.greater.items ≡ list_of l.row (λ k. max (number_at l.first k) (number_at l.second k))
