use Rattle.std.proofs.Common.{◌≡◌, ◌+◌, drop, length}
use Rattle.fd_check.specs.Commands.{solves_last}
use Rattle.fd_check.proofs.script.solves_last.Given as goal

-- so many commands are left, and what is asked of all is asked of them
abbrev pub invariant-loop-command : goal.invariant-loop-command
invariant-loop-command l = record {
  left : l.left + l.command-index ≡ length l.commands;
  same : solves_last (drop l.command-index l.commands) ≡ solves_last l.commands;
}
