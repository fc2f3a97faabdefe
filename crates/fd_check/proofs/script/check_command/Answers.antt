use Rattle.std.proofs.Common.{[], List, sym, subst, IfErr, OnOk}
use Rattle.dss_commands.specs.dss_circuit.Circuit.{CircuitView}
use Rattle.fd_check.specs.Comes.{LeadsForAll, TellsForAll}
use Rattle.fd_check.specs.Hours.{solves_open}
use Rattle.fd_check.proofs.Commands.{solve_alone}
use Rattle.fd_check.proofs.script.check_command.Goals as goal

pub returns-in-Solve-clause-goes : goal.returns-in-Solve-clause-goes
returns-in-Solve-clause-goes c =
    let n = c.check_solve.new in
    subst (λ (l : List CircuitView).
    OnOk c.check_solve.result (LeadsForAll c.args.reader.now (solves_open l c.args.at.now c.args.settled.now) n.reader
    (solves_open [] n.at n.settled)))
    (sym (solve_alone c.args.command.now c.args.circuit.now c.apply.new.circuit c.in-Solve.pairs c.in-Solve.is
    c.in-Ok.ensures))
    c.check_solve.ensures.goes

pub returns-in-Solve-clause-refused : goal.returns-in-Solve-clause-refused
returns-in-Solve-clause-refused c =
    subst (λ (l : List CircuitView). IfErr c.check_solve.result (TellsForAll c.args.reader.now (solves_open l c.args.at.now c.args.settled.now)))
    (sym (solve_alone c.args.command.now c.args.circuit.now c.apply.new.circuit c.in-Solve.pairs c.in-Solve.is c.in-Ok.ensures)) c.check_solve.ensures.refused
