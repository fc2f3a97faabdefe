use Rattle.std.proofs.Common.{◌≡◌, ◌^◌}
use Rattle.fd_equations.specs.Rounded.{list_of}
use Rattle.fd_inject.specs.Ranges.{SizesWithin}
use Rattle.fd_inject.specs.Updates.{update_at}
use Rattle.fd_inject.proofs.updates.update.Given as goal

abbrev pub invariant-loop-row : goal.invariant-loop-row
invariant-loop-row l = record {
  made : l.update.items ≡ list_of l.row (update_at l.inverse l.residual);
  small : SizesWithin (2 ^ 86) l.update.items;
}
