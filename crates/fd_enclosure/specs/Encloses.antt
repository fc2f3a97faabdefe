-- What a sound claim says of other states.
use Rattle.std.specs.Prelude.{◌≡◌, ℕ, ◌*◌, ◌^◌, ◌<◌, ◌≤◌, ℤ, ◌*ℤ◌, nat_abs, IsTrue, List, length, Ok}
use Rattle.std.specs.List.{All}
use Rattle.fd_equations.specs.fd_exact.Fractions.{Near, minus}
use Rattle.fd_equations.specs.fd_exact.States.{State, away}
use Rattle.fd_equations.specs.fd_exact.Sums.{sum_n, sum_z}
use Rattle.fd_slope.specs.fd_arith.LoadModels.{is_linear}
use Rattle.fd_slope.specs.fd_system.declared.loads.LoadAt.{LoadAt}
use Rattle.fd_slope.specs.fd_system.Meets.{Meets}
use Rattle.fd_slope.specs.fd_system.Residual.{whole_state}
use Rattle.fd_slope.specs.fd_system.System.{residual_of}
use Rattle.fd_equations.specs.fd_pattern.Conditions.{IsNetwork, IsPoint}
use Rattle.fd_equations.specs.Rounded.{jacobian_entry}
use Rattle.fd_equations.specs.fd_pattern.Views.{NetworkView}
use Rattle.fd_enclosure.specs.Boxes.{IsInPart}
use Rattle.fd_enclosure.specs.Radii.{part_radius}
use Rattle.fd_enclosure.specs.Sound.{Claim, IsInverse, IsSound, certificate_of, number_at, parts_of}

-- ---- states

-- a state of any denominator in the box of w / parts around the centre c that meets the mismatches e in every row
pub record IsAlternative (v : NetworkView) (parts : ℕ) (c : List ℤ) (e : List ℕ) (x : State) : Type 0 where
  pub over : 0 < x.over
  pub inside : IsInPart parts v c x
  pub meets : Meets (residual_of v.stamp) (number_at e) v.size x

-- each unknown of it is within its radius of the centre
abbrev pub IsWithinRadii : NetworkView → List ℤ → List ℕ → State → Type 0
IsWithinRadii v c r x = (i : ℕ) → i < v.size → nat_abs (away c x i) ≤ x.over * number_at r i

-- every such state is
abbrev pub Encloses : NetworkView → ℕ → List ℤ → List ℕ → List ℕ → Type 0
Encloses v parts c r e = (x : State) → IsAlternative v parts c e x → IsWithinRadii v c r x

-- the same of states that need not be in the box
abbrev pub EnclosesAll : NetworkView → List ℤ → List ℕ → List ℕ → Type 0
EnclosesAll v c r e =
    (x : State) → 0 < x.over → Meets (residual_of v.stamp) (number_at e) v.size x → IsWithinRadii v c r x

-- a part load of constant impedance, whose current is linear
abbrev pub IsImpedance : LoadAt → Type 0
IsImpedance u = IsTrue (is_linear u.load.model)

-- ---- laws

-- the change of a row from the centre to a state in the box is what the Jacobian at the centre says, up to the radii of the slopes
abbrev pub ChangeLaw : Type 0
ChangeLaw = (v : NetworkView) (parts : ℕ) (c : List ℤ) (x : State) (l : ℕ) → IsNetwork v → length c ≡ v.size → 0 < x.over → IsInPart parts v c x → l < v.size →
    Near (minus (residual_of v.stamp x l) (residual_of v.stamp (whole_state c) l))
    (sum_z (λ j. jacobian_entry v c l j *ℤ away c x j) v.size)
    (sum_n (λ j. part_radius parts v c l j * nat_abs (away c x j)) v.size)
    (x.over * 2 ^ 40)

-- the centre of a sound claim meets the mismatches, and every state in its box that meets them is within the radii
pub record IsEnclosure (v : NetworkView) (m : Claim) : Type 0 where
  pub meets : Meets (residual_of v.stamp) (number_at m.mismatches) v.size (whole_state m.centre)
  pub encloses : Encloses v (parts_of m.support) m.centre m.radii m.mismatches

abbrev pub EnclosureLaw : Type 0
EnclosureLaw = (v : NetworkView) (m : Claim) → IsNetwork v → IsSound v m → IsEnclosure v m

-- the certificate of a point is sound
abbrev pub CertificateLaw : Type 0
CertificateLaw =
    (v : NetworkView) (x : List ℤ) (c : List (List ℤ)) (m : Claim) → IsNetwork v → IsPoint v x → IsInverse v.size c
    → certificate_of v x c ≡ Ok m → IsSound v m

-- where each part load is of constant impedance the rows are linear, and every state that meets the mismatches is within the radii
abbrev pub LinearLaw : Type 0
LinearLaw =
    (v : NetworkView) (m : Claim) → IsNetwork v → All IsImpedance v.stamp.loads → IsSound v m
    → EnclosesAll v m.centre m.radii m.mismatches
