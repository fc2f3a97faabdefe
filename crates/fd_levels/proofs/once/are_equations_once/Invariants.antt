use Rattle.std.proofs.Common.{◌≡◌, map, drop}
use Rattle.fd_levels.specs.Once.{are_free}
use Rattle.fd_levels.specs.Order.{are_once}
use Rattle.fd_levels.proofs.once.are_equations_once.Given as goal

-- what the table says of the pairs that are left is what is said of all
abbrev pub invariant-loop-pair : goal.invariant-loop-pair
invariant-loop-pair l = are_free l.taken.items (map (λ p. p.equation) (drop l.pair-index l.pairs)) ≡ are_once l.size (map (λ p. p.equation) l.pairs)
