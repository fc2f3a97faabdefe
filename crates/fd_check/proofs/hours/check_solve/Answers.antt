use Rattle.std.proofs.Common.{[], ◌∷◌, List, sym, subst}
use Rattle.std.specs.Prelude.{IfErr, OnOk}
use Rattle.dss_commands.specs.dss_circuit.Circuit.{CircuitView}
use Rattle.fd_daily.specs.Day.{before_first}
use Rattle.fd_daily.specs.Hours.{hours_of}
use Rattle.fd_daily.specs.Underway.{machine_in, start_from}
use Rattle.fd_daily.specs.fd_sample.Probes.{positions_in}
use Rattle.fd_check.specs.Checking.{Checking, open_solves}
use Rattle.fd_check.specs.Comes.{LeadsForAll, TellsForAll}
use Rattle.fd_check.specs.Hours.{solves_open}
use Rattle.fd_check.proofs.Way.{refused_first, solve_open}
use Rattle.fd_check.proofs.hours.check_solve.Goals as goal

pub returns-in-Ok-clause-goes : goal.returns-in-Ok-clause-goes
returns-in-Ok-clause-goes c =
    let first = c.in-Ok.ensures in
    let n = c.check_hours.new in
    subst (λ (s : List CircuitView → Checking). OnOk c.check_hours.result (LeadsForAll c.args.reader.now s n.reader (solves_open [] n.at n.settled)))
    (solve_open c.args.circuit.now c.args.at.now c.start.new.at first.start c.in-Ok.underway.day
    (machine_in c.start.new.at c.in-Ok.underway) c.args.settled.now first.left first.machine)
    c.check_hours.ensures.goes

pub returns-in-Ok-clause-refused : goal.returns-in-Ok-clause-refused
returns-in-Ok-clause-refused c =
    let first = c.in-Ok.ensures in
    subst (λ (s : List CircuitView → Checking). IfErr c.check_hours.result (TellsForAll c.args.reader.now s))
    (solve_open c.args.circuit.now c.args.at.now c.start.new.at first.start c.in-Ok.underway.day
    (machine_in c.start.new.at c.in-Ok.underway) c.args.settled.now first.left first.machine)
    c.check_hours.ensures.refused

pub returns-in-Err-clause-refused : goal.returns-in-Err-clause-refused
returns-in-Err-clause-refused c =
    let circuit = c.args.circuit.now in
    subst (TellsForAll c.args.reader.now (solves_open (circuit ∷ []) c.args.at.now c.args.settled.now)) (sym c.from.ensures)
    (λ more. refused_first c.certificate_law.ensures c.args.reader.now circuit more (hours_of circuit.options) (before_first circuit (start_from circuit (positions_in c.args.at.now)))
    c.args.settled.now (λ left count. open_solves more left count) c.in-Err.fault c.in-Err.ensures.refused)
