-- The laws of systems: what contributions add up to, what the stamp of part loads is, and what the interval residual
-- holds.
use Rattle.std.specs.Prelude.{ℕ, ◌<◌, ℤ, nat_abs, List}
use Rattle.std.specs.List.{All, flat_map}
use Rattle.fd_arith.specs.fd_exact.Fractions.{Same}
use Rattle.fd_arith.specs.fd_exact.States.{State}
use Rattle.fd_arith.specs.Interval.{Holds}
use Rattle.fd_arith.specs.declared.terms.NodeAt.{NodeAt}
use Rattle.fd_system.specs.declared.loads.LoadAt.{LoadAt}
use Rattle.fd_system.specs.Complex.{complex, ◌⊠◌}
use Rattle.fd_system.specs.Contributions.{row_sum, complex_terms}
use Rattle.fd_system.specs.Equations.{unknown, side}
use Rattle.fd_system.specs.Loads.{IsLoad, load_parts}
use Rattle.fd_system.specs.System.{StampView, Represents, loads_stamp, nonlinear_of, residual_of}
use Rattle.fd_system.specs.Residual.{HasDen, HasParts, residual_interval, whole_state}

-- in every row, the contributions of a complex number add up to its product with the unknown of its column
abbrev pub ComplexLaw : Type 0
ComplexLaw =
    (r c : NodeAt) (a b d : ℤ) (x : State) (l : ℕ) → 0 < nat_abs d → 0 < x.over
    → Same (row_sum l (complex_terms r c a b d) x) (side l r (complex a b (nat_abs d) ⊠ unknown x c))

-- the stamp of part loads has the rows of their currents and magnitudes, at every state
abbrev pub LoadLaw : Type 0
LoadLaw = (us : List LoadAt) → All IsLoad us → Represents (loads_stamp us) (λ x. flat_map (λ u. load_parts u x) us)

-- the interval residual of a row holds its residual
abbrev pub ResidualLaw : Type 0
ResidualLaw =
    (s : StampView) (x : List ℤ) (l : ℕ) → All HasDen s.terms → HasParts l (nonlinear_of s.loads (whole_state x))
    → Holds (residual_interval s x l) (residual_of s (whole_state x) l)
