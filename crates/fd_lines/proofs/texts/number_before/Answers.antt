use Rattle.std.proofs.Common.{arith}
use Rattle.std.proofs.lemmas.Fmt.{length-decimal-le}
use Rattle.fd_lines.proofs.texts.number_before.Goals as goal

pub write_digits-start-requires : goal.write_digits-start-requires
write_digits-start-requires c =
    (omega (arith, c.requires.0, length-decimal-le 19 c.unsigned_abs.result (omega arith) (omega arith) (omega arith)), c.requires.1)

pub byte_before-requires : goal.byte_before-requires
byte_before-requires c =
    let l = length-decimal-le 19 c.unsigned_abs.result (omega arith) (omega arith) (omega arith) in (
      omega (arith, l, c.requires.0, c.write_digits-start.ensures.start),
      omega (arith, c.requires.1, c.write_digits-start.ensures.start, c.write_digits-start.auto.buf),
    )

pub returns-then-number-lt0-clause-at : goal.returns-then-number-lt0-clause-at
returns-then-number-lt0-clause-at c =
    let l = length-decimal-le 19 c.unsigned_abs.result (omega arith) (omega arith) (omega arith) in (
      omega (arith, c.write_digits-start.ensures.start, c.byte_before.ensures.at),
      omega (arith, l, c.write_digits-start.ensures.start, c.byte_before.ensures.at),
    )

pub returns-clause-at : goal.returns-clause-at
returns-clause-at c =
    let l = length-decimal-le 19 c.unsigned_abs.result (omega arith) (omega arith) (omega arith) in
    (omega (arith, c.write_digits-start.ensures.start), omega (arith, l, c.write_digits-start.ensures.start))
