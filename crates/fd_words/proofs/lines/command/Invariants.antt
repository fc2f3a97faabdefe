use Rattle.std.proofs.Common.{◌≡◌, length, take}
use Rattle.std.specs.Prelude.{fold}
use Rattle.clap.specs.Words.{app_of}
use Rattle.fd_words.specs.Lines.{no_lines, with_line}
use Rattle.fd_words.proofs.lines.command.Given as goal

-- the command has the lines so far
abbrev pub invariant-loop-row : goal.invariant-loop-row
invariant-loop-row l = app_of l.command ≡ fold (λ app row. with_line app row.0.now (length row.1.now)) no_lines (take l.row-index l.rows)
