-- Ties that keep the numbers of a certificate honest.
use Rattle.std.specs.Prelude.{◌≡◌, ℕ, ◌+◌, ◌*◌, ◌<◌, ◌≤◌, ℤ, nat_abs, List}
use Rattle.fd_equations.specs.fd_exact.Fractions.{Fraction}
use Rattle.fd_slope.specs.fd_system.Residual.{whole_state}
use Rattle.fd_slope.specs.fd_system.System.{residual_of}
use Rattle.fd_equations.specs.fd_pattern.Conditions.{IsNetwork, IsPoint}
use Rattle.fd_equations.specs.Enclosure.{addend_count}
use Rattle.fd_equations.specs.fd_pattern.Views.{NetworkView}
use Rattle.fd_enclosure.specs.Boxes.{half_width}
use Rattle.fd_enclosure.specs.Sound.{mismatch_at, radius_in}

-- the mismatch e of a row is at most the size of its residual f, and 4 n + 4 micro-units more where n contributions and load currents stand
-- in the row
abbrev pub IsTied : Fraction → ℕ → ℕ → Type 0
IsTied f n e = e * f.over ≤ nat_abs f.top + (4 * n + 4) * f.over

-- the mismatch of each row is so
abbrev pub TieLaw : Type 0
TieLaw = (v : NetworkView) (x : List ℤ) (l : ℕ) → IsNetwork v → IsPoint v x → l < v.size →
    IsTied (residual_of v.stamp (whole_state x) l) (addend_count v.stamp l) (mismatch_at v x l)

-- both parts of a complex unknown have one radius, and one box
pub record HasOneBall (v : NetworkView) (x : List ℤ) (c : List (List ℤ)) (e : List ℕ) (k : ℕ) : Type 0 where
  pub radius : radius_in v x c e (2 * k) ≡ radius_in v x c e (2 * k + 1)
  pub box : half_width v x (2 * k) ≡ half_width v x (2 * k + 1)

abbrev pub BallLaw : Type 0
BallLaw = (v : NetworkView) (x : List ℤ) (c : List (List ℤ)) (e : List ℕ) (k : ℕ) → v.nodes ≤ v.complexes → k < v.complexes → HasOneBall v x c e k
