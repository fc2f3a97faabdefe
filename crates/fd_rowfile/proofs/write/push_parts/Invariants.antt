use Rattle.std.proofs.Common.{◌≡◌, ◌++◌, drop}
use Rattle.std.specs.Prelude.{map}
use Rattle.fd_lines.specs.fd_outside.Emitted.{pieces_of}
use Rattle.fd_lines.specs.Numbered.{numbered_lines}
use Rattle.fd_lines.specs.WordLines.{line_bytes}
use Rattle.fd_rowfile.specs.Blocks.{part_line}
use Rattle.fd_rowfile.specs.Views.{part}
use Rattle.fd_rowfile.proofs.write.push_parts.Given as goal

-- the lines so far and those that are left
abbrev pub invariant-loop-place : goal.invariant-loop-place
invariant-loop-place l = pieces_of l.records.items ++ map line_bytes (numbered_lines part_line l.place (map part (drop l.place l.parts)))
    ≡ pieces_of l.fn.records.items ++ map line_bytes (numbered_lines part_line 0 (map part l.parts))
