-- A certified state with other mismatches of its rows, and the radii that they give.
use Rattle.std.specs.Prelude.{◌≡◌, ℕ, ◌<◌, ◌≤◌, List, length, Option, Some, None}
use Rattle.fd_enclosure.specs.fd_pattern.Views.{NetworkView}
use Rattle.fd_enclosure.specs.fd_pattern.Conditions.{IsPoint}
use Rattle.fd_enclosure.specs.Boxes.{boxes_of}
use Rattle.fd_enclosure.specs.Sound.{Claim, HasInverse, IsSound, by_inverse, greatest_mismatch, inverse_in, mismatch_at, number_at, radii_of}
use Rattle.fd_cert.specs.Claims.{claim_in}
use Rattle.fd_cert.specs.Rechecks.{place_named, refusal_of}
use Rattle.fd_cert.specs.declared.widening.Widened.{Widened}
use Rattle.fd_cert.specs.declared.widening.Widened.TheVariants.{Made, Wide}

-- a point and an inverse of the network's size, whatever else is claimed of them
pub record IsOfPoint (v : NetworkView) (m : Claim) : Type 0 where
  pub centre : IsPoint v m.centre
  pub inverse : HasInverse v.size m.support

-- a mismatch for each row, at most the greatest
pub record AreMismatches (v : NetworkView) (e : List ℕ) : Type 0 where
  pub long : length e ≡ v.size
  pub most : (l : ℕ) → l < v.size → number_at e l ≤ greatest_mismatch

-- at least those of the claim's state
abbrev pub AreWider : NetworkView → Claim → List ℕ → Type 0
AreWider v m e = (l : ℕ) → l < v.size → mismatch_at v m.centre l ≤ number_at e l

-- the claim of the same state and inverse with these mismatches, and the radii that they give
abbrev pub widened : NetworkView → Claim → List ℕ → Claim
widened v m e = record {
  centre = m.centre;
  radii = radii_of v m.centre (inverse_in m.support) e;
  mismatches = e;
  boxes = boxes_of v m.centre;
  support = by_inverse (inverse_in m.support);
}

-- the first unknown whose bound with these mismatches reaches one; where there is none, the first whose radius is too wide
abbrev pub wide_place : NetworkView → Claim → List ℕ → Option ℕ
wide_place v m e = place_named (refusal_of v m.centre e (inverse_in m.support))

-- what a claim comes to with these mismatches
abbrev pub IsWidened : NetworkView → Claim → List ℕ → Widened → Type 0
IsWidened v m e (Made w) = (wide_place v m e ≡ None) × (claim_in w ≡ widened v m e)
IsWidened v m e (Wide place) = wide_place v m e ≡ Some place

-- what is made is sound where the mismatches are at least those of the state, and a place is one of the network's
abbrev pub IsSoundOnceMade : NetworkView → Claim → List ℕ → Widened → Type 0
IsSoundOnceMade v m e (Made w) = AreWider v m e → IsSound v (claim_in w)
IsSoundOnceMade v m e (Wide place) = place < v.size

-- with mismatches that are at least those of its state a claim is sound, where none of its unknowns is too wide
abbrev pub WideningLaw : Type 0
WideningLaw =
    (v : NetworkView) (m : Claim) (e : List ℕ) → IsOfPoint v m → AreMismatches v e → AreWider v m e
    → wide_place v m e ≡ None → IsSound v (widened v m e)
