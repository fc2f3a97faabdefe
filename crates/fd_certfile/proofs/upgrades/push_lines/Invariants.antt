use Rattle.std.proofs.Common.{◌≡◌, ◌++◌, length}
use Rattle.std.specs.Prelude.{map}
use Rattle.fd_lines.specs.fd_outside.Emitted.{pieces_of}
use Rattle.fd_certfile.specs.Lines.{line_bytes, lines_of}
use Rattle.fd_certfile.specs.Upgrade.{AreKnown, upgraded}
use Rattle.fd_certfile.proofs.upgrades.push_lines.Given as goal

-- the lines so far and those of the bytes that are left
abbrev pub invariant-loop-text : goal.invariant-loop-text
invariant-loop-text l = record {
  lines : pieces_of l.records.items ++ map line_bytes (map (upgraded l.version) (lines_of l.rest))
      ≡ pieces_of l.fn.records.items ++ map line_bytes (map (upgraded l.version) (lines_of l.bytes));
  known : AreKnown (lines_of l.rest);
}

abbrev pub decreases-loop-text : goal.decreases-loop-text
decreases-loop-text l = length l.rest
