use Rattle.std.proofs.Common.{◌≡◌, ◌*◌, map}
use Rattle.std.specs.List.{range_with_len}
use Rattle.fd_ladder.specs.dss_layout.Layout.{complex_count}
use Rattle.fd_levels.proofs.answer.magnitude_pairs.Given as goal

-- the pairs of the magnitudes so far
abbrev pub invariant-loop-before : goal.invariant-loop-before
invariant-loop-before l = l.pairs.items ≡ map (λ k. record { unknown = k; equation = k }) (range_with_len (2 * complex_count l.layout) l.before)
