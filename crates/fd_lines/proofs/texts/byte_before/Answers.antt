use Rattle.std.proofs.Common.{◌≡◌, ◌+◌, ◌-◌, arith, refl}
use Rattle.std.proofs.lemmas.List.{drop-set}
use Rattle.fd_lines.proofs.texts.byte_before.Goals as goal

pub returns-clause-written : goal.returns-clause-written
returns-clause-written c =
    let e : c.args.at - 1 + 1 ≡ c.args.at = omega (arith, c.requires.0) in
    rw (drop-set c.args.buffer.now (c.args.at - 1) c.args.byte (omega (arith, c.requires.0, c.requires.1)), e) refl
