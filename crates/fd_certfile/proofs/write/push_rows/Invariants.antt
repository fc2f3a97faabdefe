use Rattle.std.proofs.Common.{ℕ, ◌<◌, ◌≡◌, ◌++◌, length}
use Rattle.fd_settle.specs.fd_equations.Rounded.{list_of}
use Rattle.fd_settle.specs.fd_mat.Rows.{row_of}
use Rattle.fd_lines.specs.fd_outside.Emitted.{pieces_of}
use Rattle.fd_certfile.specs.Blocks.{Sparse, row_line}
use Rattle.fd_certfile.specs.Lines.{line_bytes}
use Rattle.fd_certfile.proofs.write.push_rows.Given as goal

abbrev pub invariant-loop-place : goal.invariant-loop-place
invariant-loop-place l = record {
  lines : pieces_of l.records.items ≡ pieces_of l.fn.records.items ++ list_of l.place (λ i. line_bytes (row_line Sparse i (row_of l.inverse i)));
  wide : (i : ℕ) → i < l.place → length (row_of l.inverse i) ≡ length l.inverse;
}
