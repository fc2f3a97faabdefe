use Rattle.std.proofs.Common.{◌≡◌, ℕ, false, length}
use Rattle.fd_levels.specs.Marking.{is_behind}
use Rattle.fd_levels.proofs.levels.no_buses.Given as goal

-- the lists so far are empty
abbrev pub invariant-loop-place : goal.invariant-loop-place
invariant-loop-place l = record {
  long : length l.lists.items ≡ l._place;
  none : (near far : ℕ) → is_behind l.lists.items near far ≡ false;
}
