use Rattle.std.proofs.Common.{◌≡◌, false, take}
use Rattle.dss_layout.specs.Layout.{layout_of, passes_limit}
use Rattle.dss_layout.proofs.Placing.{IsPassedBy}
use Rattle.dss_layout.proofs.layout.Layout.of.Given as goal

-- the unknowns are those of the elements so far, which pass no limit
abbrev pub invariant-loop-place : goal.invariant-loop-place
invariant-loop-place l = record {
  so_far : l.unknowns ≡ layout_of (take l.place l.elements.entries);
  within : passes_limit l.unknowns ≡ false;
  before : IsPassedBy l.elements.entries l.place;
}
