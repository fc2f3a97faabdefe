use Rattle.std.proofs.Common.{◌≤◌, ◌+◌, length}
use Rattle.fd_daily.specs.Day.{hours_left}
use Rattle.fd_daily.specs.Underway.{IsUnderway, machine_in}
use Rattle.fd_solving.specs.Answered.{kept_in}
use Rattle.fd_solving.specs.Tallies.{HasRoom}
use Rattle.fd_solving.proofs.Hourly.{HourWay}
use Rattle.fd_solving.proofs.hours.run_hours.Given as goal

abbrev pub invariant-loop-alloc : goal.invariant-loop-alloc
invariant-loop-alloc g l = record {
  underway : IsUnderway l.circuit l.at l.underway;
  settles : l.settled + length (hours_left l.underway.day) ≤ l.initial.settled + 8761;
  room : HasRoom l.tally l.settled;
  later : g.S.Sink.faults l.initial.out ≤ g.S.Sink.faults l.out;
  way : HourWay g.P.Page.style l.circuit (hours_left l.initial.underway.day)
      (kept_in
      (machine_in l.initial.at l.initial.underway) l.initial.settled) g.S.Sink.taken g.S.Sink.calls l.initial.out
      l.initial.begun l.initial.tally (hours_left l.underway.day) (kept_in (machine_in l.at l.underway) l.settled) l.out
      l.begun l.tally;
}

abbrev pub decreases-loop-alloc : goal.decreases-loop-alloc
decreases-loop-alloc g l = length (hours_left l.underway.day)
