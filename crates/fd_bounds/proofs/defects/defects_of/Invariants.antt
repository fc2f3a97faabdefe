use Rattle.std.proofs.Common.{◌≡◌, [], length}
use Rattle.fd_substitution.specs.fd_derived.Sums.{AreZero}
use Rattle.fd_bounds.specs.Defects.{AreDefects}
use Rattle.fd_bounds.proofs.defects.defects_of.Given as goal

abbrev pub invariant-loop-row : goal.invariant-loop-row
invariant-loop-row l = record {
  zero : AreZero l.sums.items;
  long : length l.sums.items ≡ length l.equations;
  untouched : l.touched.items ≡ [];
  made : AreDefects l.equations l.rows l.row l.lists.items;
}
