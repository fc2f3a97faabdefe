use Rattle.std.proofs.Common.{length, negsuc, take}
use Rattle.fd_derived.specs.Rows.{entries_of, row_at}
use Rattle.fd_derived.specs.Sums.{AreInside, IsCombined, IsSupported}
use Rattle.fd_derived.proofs.defects.take_rows.Given as goal

abbrev pub invariant-loop-entry : goal.invariant-loop-entry
invariant-loop-entry l = record {
  combined : IsCombined l.fn.sums l.sums (entries_of (take l.entry-index l.row)) (λ k. (row_at l.rows k).left) (negsuc 0);
  supported : IsSupported l.sums l.touched.items;
  inside : AreInside l.touched.items (length l.sums);
}
