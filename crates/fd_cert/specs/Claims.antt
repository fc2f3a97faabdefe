-- What a certified state claims, and what a fault says.
use Rattle.std.specs.Prelude.{◌≡◌, ℕ, ◌<◌, ℤ, List, map, Err}
use Rattle.fd_enclosure.specs.fd_equations.Rounded.{list_of}
use Rattle.fd_enclosure.specs.fd_pattern.Views.{NetworkView}
use Rattle.fd_enclosure.specs.Boxes.{boxes_of}
use Rattle.fd_derived.specs.Rows.{derived_row}
use Rattle.fd_enclosure.specs.Sound.{Claim, DerivedProof, Refusal, Support, by_inverse, by_rows, loose, uncertain, certificate_of, mismatches_of}
use Rattle.fd_cert.specs.declared.ball.Certified.{Certified}
use Rattle.fd_cert.specs.declared.ball.DerivedRows.{DerivedRows}
use Rattle.fd_cert.specs.declared.ball.Support.{Support as Held}
use Rattle.fd_cert.specs.declared.ball.Support.TheVariants.{Inverse, Rows}
use Rattle.fd_cert.specs.declared.fault.CertFault.{CertFault}
use Rattle.fd_cert.specs.declared.fault.CertFault.TheVariants.{Loose, NotCertified, NoMemory}

-- the proof that derived rows are
abbrev pub proof_in : DerivedRows → DerivedProof
proof_in p = record {
  parts = p.parts;
  rows = map derived_row p.claim.rows.items;
  heights = p.claim.heights.items;
  bounding = p.claim.bounding.items;
  bounds = p.claim.bounds.items;
}

abbrev pub support_in : Held → Support
support_in (Inverse c) = by_inverse c
support_in (Rows p) = by_rows (proof_in p)

-- the claim that a certified state is
abbrev pub claim_in : Certified → Claim
claim_in m = record { centre = m.ball.centre.items; radii = m.ball.radius.items; mismatches = m.mismatch.items; boxes = m.boxes.items; support = support_in m.support }

-- what would have been claimed of the point x with the inverse c, with radii 0
abbrev pub tried_claim : NetworkView → List ℤ → List (List ℤ) → Claim
tried_claim v x c = record { centre = x; radii = list_of v.size (λ _. 0); mismatches = mismatches_of v x; boxes = boxes_of v x; support = by_inverse c }

-- the point x with the inverse c has no certificate, for this reason
pub record IsUncertain (v : NetworkView) (x : List ℤ) (c : List (List ℤ)) (r : Refusal) (m : Certified) : Type 0 where
  pub refusal : certificate_of v x c ≡ Err r
  pub tried : claim_in m ≡ tried_claim v x c

-- what a fault says of the point; that memory was refused says nothing
abbrev pub Refuses : NetworkView → List ℤ → List (List ℤ) → CertFault → Type 0
Refuses v x c (Loose row mismatch) = certificate_of v x c ≡ Err (loose row mismatch)
Refuses v x c (NotCertified place sum tried) = IsUncertain v x c (uncertain place sum) tried
Refuses v x c NoMemory = Unit {0}

-- the row or the unknown that a fault names is one of n
abbrev pub IsInside : ℕ → CertFault → Type 0
IsInside n (Loose row mismatch) = row < n
IsInside n (NotCertified place sum tried) = place < n
IsInside n NoMemory = Unit {0}
