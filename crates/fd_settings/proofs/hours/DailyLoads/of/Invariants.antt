use Rattle.std.proofs.Common.{take}
use Rattle.fd_settings.specs.Daily.{AreDailyOf}
use Rattle.fd_settings.proofs.hours.DailyLoads.of.Given as goal

abbrev pub invariant-loop-place : goal.invariant-loop-place
invariant-loop-place l = AreDailyOf l.circuit.elements (take l.place l.circuit.elements) l.each.items
