-- What judges a block on a network: the certificate's own numbers there.
use Rattle.std.specs.Prelude.{ℕ, ℤ, ◌==◌, nat_abs, Bool, false, List, map, Option, Some, None}
use Rattle.fd_settle.specs.fd_exact.States.{entry}
use Rattle.fd_settle.specs.fd_equations.Rounded.{jacobian_entry}
use Rattle.fd_settle.specs.fd_pattern.Views.{NetworkView}
use Rattle.fd_settle.specs.fd_equations.Weights.{weight_at}
use Rattle.fd_settle.specs.fd_enclosure.Bounds.{refusal}
use Rattle.fd_settle.specs.fd_enclosure.Boxes.{boxes_of}
use Rattle.fd_settle.specs.fd_enclosure.Radii.{slope_radius}
use Rattle.fd_settle.specs.fd_enclosure.Sound as sound
use Rattle.fd_settle.specs.fd_enclosure.Sound.{mismatch_at, number_at, radius_in}
use Rattle.fd_certfile.specs.Blocks.{Block, IsSized}
use Rattle.fd_certfile.specs.Rules.{Ball, Claim, Holds, Judge, Sampled, claim_of}

-- the mismatches by their sizes; a claim for which the rule on mismatches holds has none below 0
abbrev pub sizes_of : List ℤ → List ℕ
sizes_of zs = map nat_abs zs

-- the unknown at which a claim has no certificate, with its bound
abbrev pub refusal_in : NetworkView → Claim → Option (ℕ × Option ℤ)
refusal_in v m =
    refusal v.size (entry m.inverse) (jacobian_entry v m.centre) (slope_radius v m.centre) (weight_at v m.centre)
    (number_at (sizes_of m.mismatch))

abbrev pub names : ℕ → Option (ℕ × Option ℤ) → Bool
names i None = false
names i (Some refused) = refused.0 == i

-- The judge of the block that is due on a network. Its mismatches are the centre's own. Its bound reaches one at the
-- unknown that the refusal of a certificate names. Its radii are those that the claimed mismatches and the bound give.
abbrev pub judge_of : NetworkView → ℕ → ℕ → ℕ → (Ball → Sampled) → Judge
judge_of v number hour round sampled = record {
  number = number;
  hour = hour;
  round = round;
  size = v.size;
  mismatch = mismatch_at v;
  reaches_one = λ m i. names i (refusal_in v m);
  radius = λ m i. radius_in v m.centre m.inverse (sizes_of m.mismatch) i;
  sampled = sampled;
}

-- what a block claims on a network: the text has no boxes, which are those of its centre
abbrev pub claim_on : NetworkView → Block → sound.Claim
claim_on v b = record {
  centre = (claim_of b).centre;
  radii = map (λ p. nat_abs p.radius) b.parts;
  mismatches = sizes_of (claim_of b).mismatch;
  boxes = boxes_of v (claim_of b).centre;
  support = sound.by_inverse b.inverse;
}

-- where the rules hold of a block on a network, what it claims there is sound, whoever made it
abbrev pub SoundLaw : Type 0
SoundLaw = (v : NetworkView) (number hour round : ℕ) (sampled : Ball → Sampled) (b : Block)
    → IsSized b → Holds (judge_of v number hour round sampled) b → sound.IsSound v (claim_on v b)
