use Rattle.std.proofs.Common.{◌+◌, ◌≤◌, length}
use Rattle.fd_daily.specs.Day.{hours_left}
use Rattle.fd_daily.specs.Underway.{IsUnderway, machine_in}
use Rattle.fd_check.specs.Hours.{hours_open}
use Rattle.fd_check.proofs.Way.{IsWay}
use Rattle.fd_check.proofs.hours.check_hours.Given as goal

abbrev pub invariant-loop-fault : goal.invariant-loop-fault
invariant-loop-fault l = record {
  underway : IsUnderway l.circuit l.at l.underway;
  settles : l.settled + length (hours_left l.underway.day) ≤ l.initial.settled + 8761;
  way : IsWay l.circuit l.initial.reader (hours_open l.circuit l.initial.underway.day (machine_in l.initial.at l.initial.underway) l.initial.settled) l.reader l.underway.day (machine_in l.at l.underway) l.settled;
}

abbrev pub decreases-loop-fault : goal.decreases-loop-fault
decreases-loop-fault l = length (hours_left l.underway.day)
