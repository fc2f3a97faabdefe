-- When another state agrees with a certified one, however it was found.
use Rattle.std.specs.Prelude.{ℕ, ◌<◌, ◌≤◌, ℤ, List}
use Rattle.fd_enclosure.specs.fd_system.Meets.{Meets}
use Rattle.fd_enclosure.specs.fd_system.Residual.{whole_state}
use Rattle.fd_enclosure.specs.fd_system.System.{residual_of}
use Rattle.fd_enclosure.specs.fd_pattern.Conditions.{IsNetwork, IsPoint}
use Rattle.fd_enclosure.specs.fd_pattern.Views.{NetworkView}
use Rattle.fd_enclosure.specs.Boxes.{IsInPart}
use Rattle.fd_enclosure.specs.Encloses.{IsWithinRadii}
use Rattle.fd_enclosure.specs.Sound.{Claim, IsSound, mismatch_at, number_at, parts_of}

-- a point of the network in the claim's box, no mismatch of which is above the claim's
pub record IsCandidate (v : NetworkView) (m : Claim) (x : List ℤ) : Type 0 where
  pub point : IsPoint v x
  pub least : (l : ℕ) → l < v.size → mismatch_at v x l ≤ number_at m.mismatches l
  pub inside : IsInPart (parts_of m.support) v m.centre (whole_state x)

-- it meets the claim's mismatches in every row, and each unknown of it is within its radius of the claim's state
pub record IsAgreeing (v : NetworkView) (m : Claim) (x : List ℤ) : Type 0 where
  pub meets : Meets (residual_of v.stamp) (number_at m.mismatches) v.size (whole_state x)
  pub near : IsWithinRadii v m.centre m.radii (whole_state x)

abbrev pub AgreementLaw : Type 0
AgreementLaw = (v : NetworkView) (m : Claim) (x : List ℤ) → IsNetwork v → IsSound v m → IsCandidate v m x → IsAgreeing v m x
