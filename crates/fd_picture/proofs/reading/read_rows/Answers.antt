use Rattle.std.proofs.Common.{◌≡◌, ◌∙◌, ◌<◌, ◌-◌, ◌^◌, arith, false, rules, true}
use Rattle.fd_picture.specs.Lines.{is_at}
use Rattle.fd_picture.proofs.ReadSteps.{read_bad, read_end, read_more, read_unfit, stop_told}
use Rattle.fd_picture.proofs.Records.{takes}
use Rattle.fd_picture.proofs.reading.read_rows.Goals as goal

pub returns-then-is_at : goal.returns-then-is_at
returns-then-is_at c = λ all start.
    let (left, plain, so) = c.loop-number.invariant all start in
    let unfit : is_at c.args.unfit c.loop-number.number ≡ true = search rules in
    so ∙ read_unfit c.args.unfit c.loop-number.number c.loop-number.draft _ unfit

pub returns-then-not-branch : goal.returns-then-not-branch
returns-then-not-branch c = λ all start.
    let (left, plain, so) = c.loop-number.invariant all start in
    let found : c.in_ok-next_record.field-0 ≡ false = search rules in
    let fits : is_at c.args.unfit c.loop-number.number ≡ false = search rules in
    let within : c.loop-number.number < 2 ^ 64 - 1 = omega (arith, c.loop-number-test.true) in
    so ∙ read_end c.args.unfit c.loop-number.number c.loop-number.draft _ _ _ left within fits plain (rw found at c.in_ok-next_record.ensures.reads)

pub returns-in-Err : goal.returns-in-Err
returns-in-Err c = λ all start.
    let (left, plain, so) = c.loop-number.invariant all start in
    let found : c.in_ok-next_record.field-0 ≡ true = search rules in
    let took = takes _ _ _ left plain (rw found at c.in_ok-next_record.ensures.reads) c.in_ok-next_record.ensures.first in
    let fits : is_at c.args.unfit c.loop-number.number ≡ false = search rules in
    let within : c.loop-number.number < 2 ^ 64 - 1 = omega (arith, c.loop-number-test.true) in
    stop_told c.loop-number.number c.in-Err.stop c.at_line.result _ _ c.in-Err.ensures c.at_line.ensures
    (λ why bad. so ∙ read_bad c.args.unfit c.loop-number.number c.loop-number.draft why _ _ _ left within fits took bad)

pub loop-number-preserved : goal.loop-number-preserved
loop-number-preserved c = λ all start.
    let (left, plain, so) = c.loop-number.invariant all start in
    let found : c.in_ok-next_record.field-0 ≡ true = search rules in
    let took = takes _ _ _ left plain (rw found at c.in_ok-next_record.ensures.reads) c.in_ok-next_record.ensures.first in
    let fits : is_at c.args.unfit c.loop-number.number ≡ false = search rules in
    let within : c.loop-number.number < 2 ^ 64 - 1 = omega (arith, c.loop-number-test.true) in (
      took.next.2,
      took.plain,
      so ∙ read_more c.args.unfit c.loop-number.number c.loop-number.draft c.row_to.new.draft _ _ _ left within fits took c.in_default.ensures,
    )
