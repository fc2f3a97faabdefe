use Rattle.std.proofs.Common.{length, pos, take}
use Rattle.fd_derived.specs.Rows.{coefficients_at, entries_of}
use Rattle.fd_derived.specs.Sums.{AreInside, IsCombined, IsSupported}
use Rattle.fd_derived.proofs.defects.add_equations.Given as goal

abbrev pub invariant-loop-entry : goal.invariant-loop-entry
invariant-loop-entry l = record {
  combined : IsCombined l.fn.sums l.sums (entries_of (take l.entry-index l.row)) (coefficients_at l.equations) (pos 1);
  supported : IsSupported l.sums l.touched.items;
  inside : AreInside l.touched.items (length l.sums);
}
