use Rattle.std.proofs.Common.{◌≡◌, ◌-◌, ◌*◌, ◌++◌, map}
use Rattle.fd_outside.specs.Emitted.{pieces_of}
use Rattle.fd_gen.specs.Draws.{number_after}
use Rattle.fd_gen.specs.Script.{ended, sections_of}
use Rattle.fd_gen.proofs.script.push_sections.Given as goal

-- the draws and the lines of the sections before this one
abbrev pub invariant-loop-section : goal.invariant-loop-section
invariant-loop-section l = record {
  drawn : l.draws.at ≡ number_after l.number (3 * (l.section - 1));
  lines : pieces_of l.records.items ≡ pieces_of l.fn.records.items ++ map ended (sections_of l.number (l.section - 1));
}
