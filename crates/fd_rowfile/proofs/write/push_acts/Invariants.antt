use Rattle.std.proofs.Common.{◌≡◌, ◌++◌, drop}
use Rattle.std.specs.Prelude.{map}
use Rattle.fd_lines.specs.fd_outside.Emitted.{pieces_of}
use Rattle.fd_lines.specs.WordLines.{line_bytes}
use Rattle.fd_rowfile.specs.Blocks.{act_line}
use Rattle.fd_rowfile.specs.Views.{act}
use Rattle.fd_rowfile.proofs.write.push_acts.Given as goal

-- the lines so far and those of the acts that are left
abbrev pub invariant-loop-made : goal.invariant-loop-made
invariant-loop-made l = pieces_of l.records.items ++ map line_bytes (map act_line (map act (drop l.made-index l.acts)))
    ≡ pieces_of l.fn.records.items ++ map line_bytes (map act_line (map act l.acts))
