use Rattle.std.proofs.Common.{length, take}
use Rattle.fd_derived.specs.Rows.{entries_of}
use Rattle.fd_derived.specs.Sums.{AreInside, IsAdded, IsSupported}
use Rattle.fd_derived.proofs.sums.add.Given as goal

abbrev pub invariant-loop-entry : goal.invariant-loop-entry
invariant-loop-entry l = record {
  added : IsAdded l.fn.sums l.sums (entries_of (take l.entry-index l.row)) l.factor;
  supported : IsSupported l.sums l.touched.items;
  inside : AreInside l.touched.items (length l.sums);
}
