use Rattle.std.proofs.Common.{◌≡◌, ◌+◌, ◌*◌, pos}
use Rattle.fd_equations.specs.Rounded.{list_of}
use Rattle.fd_pattern.specs.Views.{kind_in}
use Rattle.fd_equations.specs.Weights.{weight_by}
use Rattle.fd_equations.proofs.weights.weights.Given as goal

abbrev pub invariant-loop-place : goal.invariant-loop-place
invariant-loop-place l =
    l.weights.items ≡ list_of l.place (λ place.
    pos (weight_by (kind_in (2 * l.layout.nodes) (2 * (l.layout.nodes + l.layout.branches)) place) l.draw l.x place))
