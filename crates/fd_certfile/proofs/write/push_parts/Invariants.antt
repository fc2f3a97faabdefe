use Rattle.std.proofs.Common.{◌≡◌, ◌++◌}
use Rattle.fd_settle.specs.fd_cert.Claims.{claim_in}
use Rattle.fd_settle.specs.fd_equations.Rounded.{list_of}
use Rattle.fd_lines.specs.fd_outside.Emitted.{pieces_of}
use Rattle.fd_certfile.specs.Blocks.{part_line}
use Rattle.fd_certfile.specs.Lines.{line_bytes}
use Rattle.fd_certfile.specs.Rounds.{part_in}
use Rattle.fd_certfile.proofs.write.push_parts.Given as goal

abbrev pub invariant-loop-place : goal.invariant-loop-place
invariant-loop-place l =
    pieces_of l.records.items ≡ pieces_of l.fn.records.items ++ list_of l.place (λ i. line_bytes (part_line i (part_in (claim_in l.certified) i)))
