use Rattle.std.proofs.Common.{arith, sym, subst}
use Rattle.std.specs.Prelude.{IfOk}
use Rattle.fd_solving.specs.Answered.{IsAnswered}
use Rattle.fd_solving.specs.Commands.{left_of}
use Rattle.std.proofs.lemmas.Result.{IfOk-weaker}
use Rattle.fd_solving.proofs.Weights.{verb_takes}
use Rattle.fd_solving.proofs.step.answer_to.Goals as goal

pub returns-in-Ok-clause-left : goal.returns-in-Ok-clause-left
returns-in-Ok-clause-left c =
    let command = c.args.command.now in
    subst (λ r. IfOk c.after_apply.result (IsAnswered (left_of command.place command.verb r) c.apply.new.circuit))
    (sym c.in-Ok.ensures) c.after_apply.ensures.left

pub returns-in-Ok-clause-count : goal.returns-in-Ok-clause-count
returns-in-Ok-clause-count c =
    let command = c.args.command.now in
    let takes = verb_takes command.place command.verb c.args.circuit.now c.apply.new.circuit c.in-Ok.ensures in
    IfOk-weaker c.after_apply.result _ _
    (λ a few. let more = takes.count in omega (arith, few, more)) c.after_apply.ensures.count

pub returns-in-Ok-clause-kept : goal.returns-in-Ok-clause-kept
returns-in-Ok-clause-kept c =
    let command = c.args.command.now in
    let takes = (verb_takes command.place command.verb c.args.circuit.now c.apply.new.circuit c.in-Ok.ensures).count in
    omega (arith, takes)
