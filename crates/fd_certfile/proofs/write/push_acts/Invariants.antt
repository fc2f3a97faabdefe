use Rattle.std.proofs.Common.{◌≡◌, ◌++◌, All, drop, take}
use Rattle.std.specs.Prelude.{map}
use Rattle.fd_lines.specs.fd_outside.Emitted.{pieces_of}
use Rattle.fd_certfile.specs.Blocks.{act_line}
use Rattle.fd_certfile.specs.Lines.{line_bytes}
use Rattle.fd_certfile.specs.Rounds.{AreNumbers, act_of}
use Rattle.fd_certfile.proofs.write.push_acts.Given as goal

-- the lines so far and those of the acts that are left
abbrev pub invariant-loop-act : goal.invariant-loop-act
invariant-loop-act l = record {
  lines : pieces_of l.records.items ++ map line_bytes (map act_line (map act_of (drop l.act-index l.acts)))
      ≡ pieces_of l.fn.records.items ++ map line_bytes (map act_line (map act_of l.acts));
  small : All (λ a. AreNumbers (act_of a)) (take l.act-index l.acts);
}
