-- Where the check of a script's Solves stands, as the code has it.
use Rattle.std.specs.Prelude.{ℕ, List, ◌++◌}
use Rattle.dss_commands.specs.dss_circuit.Circuit.{CircuitView, empty_circuit}
use Rattle.dss_commands.specs.dss_model.declared.command.Command.{Command}
use Rattle.fd_daily.specs.Day.{DayView, begun_hour, hour_in, hours_left}
use Rattle.fd_daily.specs.Underway.{no_positions}
use Rattle.fd_daily.specs.fd_queue.Machine.{Machine}
use Rattle.fd_daily.specs.fd_devices.declared.settings.Positions.{Positions as CodePositions}
use Rattle.fd_daily.specs.fd_sample.Probes.{positions_in}
use Rattle.fd_check.specs.Checking.{Checking, Settling, open_hours, open_solves, under_way}
use Rattle.fd_check.specs.Commands.{solves_in}

-- before the Solves of a script with these commands
abbrev pub script_open : List Command → Checking
script_open commands = open_solves (solves_in empty_circuit commands) no_positions 0

-- ---- each with whatever Solves behind (more)

-- before these Solves, where the Solves so far left these positions and had so many settles
abbrev pub solves_open : List CircuitView → CodePositions → ℕ → List CircuitView → Checking
solves_open solves at n more = open_solves (solves ++ more) (positions_in at) n

-- before the hours that are left of a Solve, where the hour before left this machine
abbrev pub hours_open : CircuitView → DayView → Machine → ℕ → List CircuitView → Checking
hours_open c day m n more = open_hours c more (hours_left day) m n (λ left count. open_solves more left count)

-- before the next hour and then these hours, where the hour's settle has this number
abbrev pub first_round : CircuitView → DayView → Machine → ℕ → List ℕ → List CircuitView → Settling
first_round c day m number hours more = record {
  circuit = c;
  hour = hour_in day;
  hours = hours;
  more = more;
  number = number;
  round = 0;
  machine = begun_hour c day m;
}

abbrev pub hour_open : CircuitView → DayView → Machine → ℕ → List ℕ → List CircuitView → Checking
hour_open c day m number hours more = under_way (first_round c day m number hours more)

-- behind that hour, which left this machine, before these hours
abbrev pub behind_hour : CircuitView → Machine → ℕ → List ℕ → List CircuitView → Checking
behind_hour c m number hours more = open_hours c more hours m number (λ left count. open_solves more left count)
