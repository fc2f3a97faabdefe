use Rattle.std.proofs.Common.{arith}
use Rattle.std.proofs.lemmas.Fmt.{length-decimal-le}
use Rattle.fd_lines.proofs.texts.pair_before.Goals as goal

pub write_digits-place_at-requires : goal.write_digits-place_at-requires
write_digits-place_at-requires c =
    let l = length-decimal-le 20 c.args.place (omega arith) (omega arith) (omega arith) in (
      omega (arith, l, c.requires.0, c.number_before-entry_at.ensures.at.1, c.byte_before-blank_at.ensures.at),
      omega (
        arith,
        c.requires.1,
        c.number_before-entry_at.ensures.at.0,
        c.byte_before-blank_at.ensures.at,
        c.number_before-entry_at.auto.buffer,
        c.byte_before-blank_at.auto.buffer,
      ),
    )

pub byte_before-requires : goal.byte_before-requires
byte_before-requires c =
    let l = length-decimal-le 20 c.args.place (omega arith) (omega arith) (omega arith) in (
      omega (
        arith,
        l,
        c.requires.0,
        c.number_before-entry_at.ensures.at.1,
        c.byte_before-blank_at.ensures.at,
        c.write_digits-place_at.ensures.start,
      ),
      omega (
        arith,
        c.requires.1,
        c.number_before-entry_at.ensures.at.0,
        c.byte_before-blank_at.ensures.at,
        c.write_digits-place_at.ensures.start,
        c.number_before-entry_at.auto.buffer,
        c.byte_before-blank_at.auto.buffer,
        c.write_digits-place_at.auto.buf,
      ),
    )
