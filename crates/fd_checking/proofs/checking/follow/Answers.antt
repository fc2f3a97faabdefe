use Rattle.std.proofs.lemmas.Result.{IfOk-weaker}
use Rattle.fd_solving.specs.declared.answer.Answer.TheVariants as answer
use Rattle.fd_checking.proofs.Gathering.{kept_follows, refused_follows, taken_by}
use Rattle.fd_checking.proofs.checking.follow.Goals as goal

pub returns-in-Done : goal.returns-in-Done
returns-in-Done c =
    let so = rw c.in-Done.is at c.in_ok-answer_to.ensures.left in
    let taken = taken_by c.args.command c.args.circuit.now c.answer_to.new.circuit answer.Done so tt in
    IfOk-weaker c.keep.result _ _ (λ f k.
    kept_follows c.args.command c.args.circuit.now c.answer_to.new.circuit c.args.commands.now.items
    c.requires.gathered c.requires.room taken answer.Done so tt c.keep.new.commands.items f k)
    c.keep.ensures

pub returns-in-Bases : goal.returns-in-Bases
returns-in-Bases c =
    let so = rw c.in-Bases.is at c.in_ok-answer_to.ensures.left in
    let taken = taken_by c.args.command c.args.circuit.now c.answer_to.new.circuit answer.Bases so tt in
    IfOk-weaker c.keep-in-Bases.result _ _ (λ f k.
    kept_follows c.args.command c.args.circuit.now c.answer_to.new.circuit c.args.commands.now.items
    c.requires.gathered c.requires.room taken answer.Bases so tt c.keep-in-Bases.new.commands.items f k)
    c.keep-in-Bases.ensures

pub returns-in-Solves : goal.returns-in-Solves
returns-in-Solves c =
    let so = rw c.in-Solves.is at c.in_ok-answer_to.ensures.left in
    let taken = taken_by c.args.command c.args.circuit.now c.answer_to.new.circuit answer.Solves so tt in
    IfOk-weaker c.keep-in-Solves.result _ _ (λ f k.
    kept_follows c.args.command c.args.circuit.now c.answer_to.new.circuit c.args.commands.now.items
    c.requires.gathered c.requires.room taken answer.Solves so tt c.keep-in-Solves.new.commands.items f k)
    c.keep-in-Solves.ensures

pub returns-in-Refuses : goal.returns-in-Refuses
returns-in-Refuses c =
    refused_follows c.args.command c.args.circuit.now c.answer_to.new.circuit c.in-Refuses.fault
    (rw c.in-Refuses.is at c.in_ok-answer_to.ensures.left) c.args.commands.now.items
