use Rattle.std.proofs.Common.{◌≡◌, ℕ, ◌+◌, ◌<◌, [], None, length}
use Rattle.fd_derived.specs.Marks.{AreMarks}
use Rattle.fd_derived.specs.Refusals.{row_refusal}
use Rattle.fd_derived.specs.Rows.{number_of_rows}
use Rattle.fd_derived.specs.Sums.{AreZero}
use Rattle.fd_derived.proofs.checking.rows_refusal.Given as goal

abbrev pub invariant-loop-row : goal.invariant-loop-row
invariant-loop-row l = record {
  marks : AreMarks (length l.equations) (number_of_rows l.claim) (l.row + 1) l.marks;
  zero : AreZero l.sums;
  long : length l.sums ≡ length l.equations;
  untouched : l.touched.items ≡ [];
  none : (i : ℕ) → i < l.row → row_refusal l.equations l.claim i ≡ None;
}
