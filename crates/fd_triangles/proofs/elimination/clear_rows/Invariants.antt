use Rattle.std.proofs.Common.{◌≡◌, ℕ, ◌<◌, List, length}
use Rattle.fd_derived.specs.declared.entries.Equation.{Equation}
use Rattle.fd_triangles.specs.Columns.{Holds}
use Rattle.fd_triangles.specs.Factors.{AreRows, Clearing, HasPivot}
use Rattle.fd_triangles.specs.declared.pair.Pair.{Pair}
use Rattle.fd_triangles.proofs.elimination.clear_rows.Given as goal

abbrev pub invariant-loop-index : goal.invariant-loop-index
invariant-loop-index l = record {
  stage : (es : List Equation) (order : List Pair) → HasPivot es order l.t l.pivot l.others
      → Clearing es order l.t l.holding 0 l.fn.work l.fn.columns
      → Clearing es order l.t l.holding l.index-index l.work l.columns;
  rows : AreRows (length l.columns) l.work;
  columns : length l.columns ≡ length l.fn.columns;
  noted : (c i : ℕ) → Holds l.columns c i → i < length l.fn.work;
}
