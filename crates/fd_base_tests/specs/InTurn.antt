-- The order of the tests of an elimination.
use Rattle.std.specs.Prelude.{List, [], ◌∷◌}
use Rattle.fd_bounds.specs.fd_triangles.declared.pair.Pair.{Pair}

-- three unknowns, each by the equation of its number
abbrev pub in_turn : List Pair
in_turn =
    record { unknown = 0; equation = 0 } ∷ record { unknown = 1; equation = 1 } ∷ record { unknown = 2; equation = 2 } ∷ []
