use Rattle.std.proofs.Common.{◌≡◌, ℕ, ◌<◌, ◌≤◌, false, eqb, length, take}
use Rattle.fd_derived.specs.Refusals.{is_misplaced, is_named}
use Rattle.fd_derived.specs.Rows.{entries_of, number_at}
use Rattle.fd_derived.proofs.places.has_places.Given as goal

abbrev pub invariant-loop-entry : goal.invariant-loop-entry
invariant-loop-entry l = record {
  long : length l.marks ≡ length l.fn.marks;
  low : (p : ℕ) → p < length l.marks → number_at l.marks p ≤ l.mark;
  marked : (p : ℕ) → p < length l.marks → eqb (number_at l.marks p) l.mark ≡ is_named (take l.entry-index (entries_of l.row)) p;
  placed : (k : ℕ) → k < l.entry-index → is_misplaced (length l.fn.marks) (entries_of l.row) k ≡ false;
}
