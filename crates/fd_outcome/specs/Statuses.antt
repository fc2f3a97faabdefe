-- Exit statuses: 0 where a command line was done to its end, a fault's, and the two that cut a run short.
use Rattle.std.specs.Prelude.{ℕ, Option, Some, None}
use Rattle.fd_report.specs.Faults.{status}
use Rattle.fd_report.specs.declared.faults.Fault.{Fault}

-- the status of an end
abbrev pub status_of : Option Fault → ℕ
status_of None = 0
status_of (Some fault) = status fault

-- those that no end has
abbrev pub want_of_memory : ℕ
want_of_memory = 1

abbrev pub write_fault : ℕ
write_fault = 5
