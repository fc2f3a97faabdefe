use Rattle.std.proofs.Common.{◌≡◌, ℕ, ◌<◌, List, length}
use Rattle.fd_derived.specs.declared.entries.Equation.{Equation}
use Rattle.fd_triangles.specs.Columns.{Holds}
use Rattle.fd_triangles.specs.Factors.{AreRows, Running}
use Rattle.fd_triangles.proofs.elimination.eliminate_all.Given as goal

abbrev pub invariant-loop-t : goal.invariant-loop-t
invariant-loop-t l = record {
  running : (es : List Equation) → Running es l.order 0 l.fn.work l.fn.columns l.fn.done.items
      → Running es l.order l.t l.work l.columns l.done.items;
  rows : AreRows (length l.columns) l.work;
  inside : (c i : ℕ) → Holds l.columns c i → i < length l.work;
  columns : length l.columns ≡ length l.fn.columns;
}
