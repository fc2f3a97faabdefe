-- The order of the tests of steps.
use Rattle.std.specs.Prelude.{List, [], ◌∷◌}
use Rattle.fd_bounds.specs.fd_triangles.declared.pair.Pair.{Pair}

-- the second unknown by the first equation, then the first unknown by the second equation
abbrev pub crossed : List Pair
crossed = record { unknown = 1; equation = 0 } ∷ record { unknown = 0; equation = 1 } ∷ []
