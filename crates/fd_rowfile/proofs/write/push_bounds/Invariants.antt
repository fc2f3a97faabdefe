use Rattle.std.proofs.Common.{◌≡◌, ◌++◌, drop}
use Rattle.std.specs.Prelude.{map}
use Rattle.std.specs.List.{zip}
use Rattle.fd_lines.specs.fd_outside.Emitted.{pieces_of}
use Rattle.fd_lines.specs.Numbered.{numbered_lines}
use Rattle.fd_lines.specs.WordLines.{line_bytes}
use Rattle.fd_rowfile.specs.Blocks.{bound_line}
use Rattle.fd_rowfile.specs.Written.{made_bound}
use Rattle.fd_rowfile.proofs.write.push_bounds.Given as goal

-- the lines so far and those that are left
abbrev pub invariant-loop-place : goal.invariant-loop-place
invariant-loop-place l = pieces_of l.records.items ++ map line_bytes (numbered_lines bound_line l.place (map made_bound (drop l.place (zip l.bounding l.bounds))))
    ≡ pieces_of l.fn.records.items ++ map line_bytes (numbered_lines bound_line 0 (map made_bound (zip l.bounding l.bounds)))
