use Rattle.std.proofs.Common.{◌<◌, length, refl, arith}
use Rattle.std.proofs.lemmas.Int.Digits.{digits_more, digits_value_more}
use Rattle.fd_lines.proofs.FewDigits.{few_digits, head_is}
use Rattle.fd_lines.proofs.short.head.Goals as goal

pub overflow_mul-value : goal.overflow_mul-value
overflow_mul-value c =
    omega (
      arith,
      c.loop-place.invariant.worth,
      few_digits c.args.text.now c.loop-place.place 17 c.loop-place.invariant.digits (omega (arith, c.loop-place-test.true, c.requires)),
    )

pub overflow_add-value : goal.overflow_add-value
overflow_add-value c =
    omega (
      arith,
      c.loop-place.invariant.worth,
      c.in-Some.ensures.0,
      c.in-Some.ensures.1,
      few_digits c.args.text.now c.loop-place.place 17 c.loop-place.invariant.digits (omega (arith, c.loop-place-test.true, c.requires)),
    )

pub returns-in-None-clause-head : goal.returns-in-None-clause-head
returns-in-None-clause-head c =
    head_is c.args.text.now c.loop-place.value c.loop-place.place c.loop-place.place refl
    (omega (arith, c.loop-place-test.true, c.requires)) (omega (arith, c.loop-place-test.true, c.requires))
    c.loop-place.invariant.digits c.loop-place.invariant.worth

pub loop-place-preserved : goal.loop-place-preserved
loop-place-preserved c =
    let within : c.loop-place.place < length c.args.text.now = omega (arith, c.loop-place-test.true, c.requires) in
    record {
      digits = digits_more 10 c.args.text.now c.loop-place.place within c.loop-place.invariant.digits c.in-Some.ensures.0;
      worth = omega (arith, c.in-Some.ensures.1, c.loop-place.invariant.worth, digits_value_more 10 c.args.text.now c.loop-place.place within);
    }

pub returns-clause-head : goal.returns-clause-head
returns-clause-head c =
    head_is c.args.text.now c.loop-place.value c.loop-place.place c.args.most
    (omega (arith, c.loop-place-test.false, c.loop-place.auto.place-end)) (omega (arith, c.requires)) (omega (arith, c.requires))
    c.loop-place.invariant.digits c.loop-place.invariant.worth
