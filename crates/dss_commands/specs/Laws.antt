-- What every circuit is that commands make.
use Rattle.std.specs.Prelude.{◌≡◌, ◌+◌, ◌<◌, ◌≤◌, length, Ok}
use Rattle.dss_circuit.specs.dss_model.declared.command.Command.{Command}
use Rattle.dss_circuit.specs.Circuit.{CircuitView}
use Rattle.dss_circuit.specs.InRange.{IsWithinLimits}
use Rattle.dss_circuit.specs.Limits.{most_elements}
use Rattle.dss_commands.specs.Commands.{applied}

-- a command that is accepted leaves a circuit that is one still, with one element more at most
pub record IsKept (before after : CircuitView) : Type 0 where
  pub within : IsWithinLimits after.elements after.options
  pub one_more : length after.elements ≤ length before.elements + 1

abbrev pub LimitsLaw : Type 0
LimitsLaw = (command : Command) (before after : CircuitView) → applied command before ≡ Ok after
    → length before.elements < most_elements → IsWithinLimits before.elements before.options → IsKept before after
