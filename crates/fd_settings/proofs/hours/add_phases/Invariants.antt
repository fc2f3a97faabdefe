use Rattle.std.proofs.Common.{◌≡◌, ◌++◌, replicate}
use Rattle.fd_settings.proofs.hours.add_phases.Given as goal

abbrev pub invariant-loop : goal.invariant-loop
invariant-loop l = l.powers.items ≡ l.initial.powers.items ++ replicate l.counter l.power
