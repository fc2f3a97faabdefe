use Rattle.std.proofs.Common.{◌≡◌, ◌++◌, drop}
use Rattle.std.specs.Prelude.{map}
use Rattle.std.specs.List.{zip}
use Rattle.fd_lines.specs.fd_outside.Emitted.{pieces_of}
use Rattle.fd_lines.specs.Numbered.{numbered_lines}
use Rattle.fd_lines.specs.WordLines.{line_bytes}
use Rattle.fd_rowfile.specs.Blocks.{row_line}
use Rattle.fd_rowfile.specs.Written.{made_row}
use Rattle.fd_rowfile.proofs.write.push_rows.Given as goal

-- the lines so far and those that are left
abbrev pub invariant-loop-place : goal.invariant-loop-place
invariant-loop-place l = pieces_of l.records.items ++ map line_bytes (numbered_lines row_line l.place (map made_row (drop l.place (zip l.rows l.heights))))
    ≡ pieces_of l.fn.records.items ++ map line_bytes (numbered_lines row_line 0 (map made_row (zip l.rows l.heights)))
