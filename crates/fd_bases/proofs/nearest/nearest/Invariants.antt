use Rattle.std.proofs.Common.{ℤ, pos, ◌∷◌, drop}
use Rattle.dss_layout.specs.fd_exact.Ranges.{IsBetween}
use Rattle.dss_layout.specs.dss_model.Ranges.{ones}
use Rattle.fd_bases.proofs.Chosen.{IsChosen}
use Rattle.fd_bases.proofs.nearest.nearest.Given as goal

-- what is chosen of the best so far and the rest is chosen of all
abbrev pub invariant-loop-base : goal.invariant-loop-base
invariant-loop-base l = record {
  in_range : IsBetween (pos 1_000_000) (ones 1000) l.best;
  chosen : (z : ℤ) → IsChosen l.nominal (l.best ∷ drop l.base-index l.others) z → IsChosen l.nominal (l.first ∷ l.others) z;
}
