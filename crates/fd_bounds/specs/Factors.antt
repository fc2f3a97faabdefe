-- Factors of equations are derived rows in order.
use Rattle.std.specs.Prelude.{List}
use Rattle.fd_substitution.specs.fd_derived.declared.entries.Equation.{Equation}
use Rattle.fd_substitution.specs.fd_derived.declared.entries.Row.{Row}
use Rattle.fd_substitution.specs.fd_triangles.Factors.{AreFactors, AreOrdered}
use Rattle.fd_substitution.specs.fd_triangles.declared.pair.Pair.{Pair}
use Rattle.fd_bounds.specs.Rows.{AreInOrder}

-- rows that are factors of equations in an order of pairs are rows in order, whose pivots aren't 0
abbrev pub InOrderLaw : Type 0
InOrderLaw = (es : List Equation) (order : List Pair) (rows : List Row)
    → AreOrdered es order → AreFactors es order rows → AreInOrder es rows
