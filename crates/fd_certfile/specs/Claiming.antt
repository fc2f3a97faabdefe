-- The claim that the numbers of a block are read as. Sizes and mismatches of a claim have no sign, and no rule holds of a
-- number below 0.
use Rattle.std.specs.Prelude.{ℕ, ℤ, pos, negsuc, List, map}
use Rattle.fd_settle.specs.fd_pattern.Views.{NetworkView}
use Rattle.fd_settle.specs.fd_enclosure.Sound as sound
use Rattle.fd_settle.specs.fd_cert.Rechecks.{boxed_claim}
use Rattle.fd_certfile.specs.Blocks.{Block}
use Rattle.fd_certfile.specs.Rules.{claim_of}
use Rattle.fd_certfile.specs.declared.block.Part.{Part as Read}

-- a radius; one below 0 as one that is out of range
abbrev pub read_radius : ℤ → ℕ
read_radius (pos n) = n
read_radius (negsuc n) = 1099511627777

-- a mismatch; one below 0 as one above the greatest of a solution
abbrev pub read_mismatch : ℤ → ℕ
read_mismatch (pos n) = n
read_mismatch (negsuc n) = 1001

-- of an unknown as the code reads it
abbrev pub centre_in : Read → ℤ
centre_in p = p.centre

abbrev pub radius_in : Read → ℕ
radius_in p = read_radius p.radius

abbrev pub mismatch_in : Read → ℕ
mismatch_in p = read_mismatch p.mismatch

abbrev pub radii_read : Block → List ℕ
radii_read b = map (λ p. read_radius p.radius) b.parts

abbrev pub mismatches_read : Block → List ℕ
mismatches_read b = map (λ p. read_mismatch p.mismatch) b.parts

-- the text has no boxes, which are those of its centre
abbrev pub claim_read : NetworkView → Block → sound.Claim
claim_read v b = boxed_claim v (claim_of b).centre (radii_read b) (mismatches_read b) b.inverse
