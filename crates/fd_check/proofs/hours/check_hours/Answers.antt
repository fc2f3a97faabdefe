use Rattle.std.proofs.Common.{◌+◌, length, arith, ap, subst, sym}
use Rattle.fd_daily.proofs.CallerLemmas.{left_hours, next_first}
use Rattle.fd_daily.specs.Underway.{machine_in}
use Rattle.fd_check.specs.Comes.{TellsForAll}
use Rattle.fd_check.specs.Hours.{hours_open}
use Rattle.fd_check.proofs.Way.{way_range, way_refused, way_on}
use Rattle.fd_check.proofs.hours.check_hours.Goals as goal

pub loop-fault-init : goal.loop-fault-init
loop-fault-init c = record {
  underway = c.requires.underway;
  settles = omega (arith, (left_hours c.args.underway.now.day c.requires.underway.day).few);
  way = record { leads = λ more answer h. h };
}

pub overflow_add-settled : goal.overflow_add-settled
overflow_add-settled c =
    let u = c.loop-fault.invariant.underway in
    omega (arith, c.loop-fault.invariant.settles, c.requires.settles, ap length (next_first c.loop-fault.underway.day u.day u.hour))

pub returns-in-Err-clause-refused : goal.returns-in-Err-clause-refused
returns-in-Err-clause-refused c =
    let u = c.loop-fault.invariant.underway in
    way_refused c.args.circuit.now c.args.reader.now
    (hours_open c.args.circuit.now c.args.underway.now.day (machine_in c.args.at.now c.args.underway.now) c.args.settled.now) c.loop-fault.reader
    c.loop-fault.underway.day (machine_in c.loop-fault.at c.loop-fault.underway) c.loop-fault.settled c.loop-fault.invariant.way u.day u.hour
    c.in-Err.fault c.in-Err.ensures.refused

pub returns-in-Err-next_network-clause-refused : goal.returns-in-Err-next_network-clause-refused
returns-in-Err-next_network-clause-refused c =
    let circuit = c.args.circuit.now in
    let first = hours_open circuit c.args.underway.now.day (machine_in c.args.at.now c.args.underway.now) c.args.settled.now in
    let next = c.check_hour.new in
    let left = c.in_default.ensures.left in
    let way = way_on circuit c.args.reader.now first c.loop-fault.reader c.loop-fault.underway.day (machine_in c.loop-fault.at c.loop-fault.underway)
    c.loop-fault.settled
    c.loop-fault.invariant.way next.reader (machine_in next.at next.underway) next.underway.day left.left c.in_default.ensures.goes in
    subst (TellsForAll c.args.reader.now first) (sym c.from.ensures)
    (way_range circuit c.args.reader.now first c.certificate_law.ensures next.reader next.underway.day (machine_in next.at next.underway) (c.loop-fault.settled + 1) way
    c.in-Err-next_network.refusal c.in-Err-next_network.ensures.refused)
