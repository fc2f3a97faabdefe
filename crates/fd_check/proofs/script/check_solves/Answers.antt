use Rattle.std.proofs.Common.{◌∙◌, subst, sym}
use Rattle.std.specs.Prelude.{IfErr, IfOk}
use Rattle.dss_commands.specs.dss_circuit.Circuit.{empty_circuit}
use Rattle.fd_certfile.specs.Verdict.{accepted}
use Rattle.fd_daily.specs.dss_ready.Ready.{HasPassed}
use Rattle.fd_check.specs.Checking.{Checking}
use Rattle.fd_check.specs.Comes.{Comes, Tells}
use Rattle.fd_check.proofs.Commands.{only_open, only_solve}
use Rattle.fd_check.proofs.script.check_solves.Goals as goal

pub check_circuit-requires : goal.check_circuit-requires
check_circuit-requires c =
    let last = sym c.solves_last.ensures ∙ c.if-solves_last.true in
    subst HasPassed (sym c.requires.made) (only_solve empty_circuit c.args.commands.now last c.requires.accepted).passed

pub returns-then-solves_last-clause-accepted : goal.returns-then-solves_last-clause-accepted
returns-then-solves_last-clause-accepted c =
    let last = sym c.solves_last.ensures ∙ c.if-solves_last.true in
    subst (λ (s : Checking). IfOk c.check_circuit.result (λ count. Comes c.args.reader.now s (accepted count)))
    (only_open c.args.circuit.now c.args.commands.now last c.requires.accepted c.requires.made)
    c.check_circuit.ensures.accepted

pub returns-then-solves_last-clause-refused : goal.returns-then-solves_last-clause-refused
returns-then-solves_last-clause-refused c =
    let last = sym c.solves_last.ensures ∙ c.if-solves_last.true in
    subst (λ (s : Checking). IfErr c.check_circuit.result (λ fault. Tells fault (Comes c.args.reader.now s)))
    (only_open c.args.circuit.now c.args.commands.now last c.requires.accepted c.requires.made)
    c.check_circuit.ensures.refused
