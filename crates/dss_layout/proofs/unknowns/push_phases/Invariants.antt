use Rattle.std.proofs.Common.{◌≡◌, ◌++◌}
use Rattle.dss_layout.specs.Layout.{phase_names}
use Rattle.dss_layout.proofs.unknowns.push_phases.Given as goal

abbrev pub invariant-loop-before : goal.invariant-loop-before
invariant-loop-before l = l.names.items ≡ l.fn.names.items ++ phase_names l.element l.before
