use Rattle.std.proofs.Common.{◌∙◌, ◌+◌, List, ap, subst, sym, arith, drop, length}
use Rattle.std.proofs.lemmas.List.{drop_all, length-append}
use Rattle.std.proofs.lemmas.Result.{IfErr-weaker, IfOk-weaker}
use Rattle.dss_commands.specs.dss_circuit.Circuit.{CircuitView, empty_circuit}
use Rattle.dss_commands.specs.dss_model.declared.command.Command.{Command}
use Rattle.fd_daily.specs.Underway.{no_positions}
use Rattle.fd_certfile.specs.Verdict.{accepted}
use Rattle.fd_daily.specs.fd_sample.Probes.{positions_in}
use Rattle.fd_check.specs.Checking.{open_solves}
use Rattle.fd_check.specs.Comes.{Comes, Leads, Tells}
use Rattle.fd_check.specs.Commands.{AreAccepted, behind_one, solve_in, solves_in}
use Rattle.fd_check.proofs.Commands.{accepted_behind, left_solves, next_item, refuses_tells, tells_before}
use Rattle.fd_check.proofs.script.check_commands.Goals as goal

pub returns-in-Err-clause-refused : goal.returns-in-Err-clause-refused
returns-in-Err-clause-refused c =
    let l = c.loop-command in
    let x = c.command-item.result in
    let rest = drop (l.command-index + 1) c.args.commands.now in
    let item = next_item c.args.commands.now l.command-index x (omega (arith, l.auto.command-index-end, c.loop-command-test.true)) c.command-item.is in
    let left = left_solves l.circuit (drop l.command-index c.args.commands.now) rest x item in
    let told = c.in-Err.ensures.refused (solves_in (behind_one x l.circuit) rest) in
    tells_before c.args.reader.now l.reader _ _ c.in-Err.fault l.invariant.leads
    (subst (λ (cs : List CircuitView). Tells c.in-Err.fault (Comes l.reader (open_solves cs (positions_in l.at) l.settled))) (sym left) told)

pub loop-command-preserved : goal.loop-command-preserved
loop-command-preserved c =
    let l = c.loop-command in
    let n = c.check_command.new in
    let e = c.in_default.ensures in
    let x = c.command-item.result in
    let rest = drop (l.command-index + 1) c.args.commands.now in
    let item = next_item c.args.commands.now l.command-index x (omega (arith, l.auto.command-index-end, c.loop-command-test.true)) c.command-item.is in
    let left = left_solves l.circuit (drop l.command-index c.args.commands.now) rest x item in
    let now = e.circuit in
    record {
      accepted = subst (λ (k : CircuitView). AreAccepted k rest) (sym now)
          (accepted_behind l.circuit (drop l.command-index c.args.commands.now) rest x item l.invariant.accepted);
      few =
          let count = ap length left ∙ length-append (solve_in x l.circuit) (solves_in (behind_one x l.circuit) rest) in
          let same = ap (λ (k : CircuitView). length (solves_in k rest)) now in
          omega (arith, count, same, e.settles, l.invariant.few);
      taps = e.taps;
      leads = λ answer h. l.invariant.leads answer
          (subst (λ (cs : List CircuitView). Comes l.reader (open_solves cs (positions_in l.at) l.settled) answer) (sym left)
          (e.goes (solves_in (behind_one x l.circuit) rest) answer
          (subst (λ (k : CircuitView). Comes n.reader (open_solves (solves_in k rest) (positions_in n.at) n.settled) answer) now h)));
    }

pub returns-clause-accepted : goal.returns-clause-accepted
returns-clause-accepted c =
    let l = c.loop-command in
    let none = drop_all l.command-index c.args.commands.now (omega (arith, l.auto.command-index-end, c.loop-command-test.false)) in
    let leads = subst (λ (xs : List Command).
    Leads c.args.reader.now (open_solves (solves_in empty_circuit c.args.commands.now) no_positions 0) l.reader
    (open_solves (solves_in l.circuit xs) (positions_in l.at) l.settled))
    none l.invariant.leads in
    IfOk-weaker c.check_end.result _ _ (λ count h. leads (accepted count) h) c.check_end.ensures.accepted

pub returns-clause-refused : goal.returns-clause-refused
returns-clause-refused c =
    let l = c.loop-command in
    let none = drop_all l.command-index c.args.commands.now (omega (arith, l.auto.command-index-end, c.loop-command-test.false)) in
    let leads = subst (λ (xs : List Command).
    Leads c.args.reader.now (open_solves (solves_in empty_circuit c.args.commands.now) no_positions 0) l.reader
    (open_solves (solves_in l.circuit xs) (positions_in l.at) l.settled))
    none l.invariant.leads in
    IfErr-weaker c.check_end.result _ _ (λ e h. tells_before c.args.reader.now l.reader _ _ e leads (refuses_tells e _ h)) c.check_end.ensures.refused
