use Rattle.std.proofs.Common.{◌-◌, ◌/◌, arith}
use Rattle.fd_source.specs.Powers.{KeepsSize}
use Rattle.fd_source.proofs.Squares.{kept_below, refused}
use Rattle.fd_source.proofs.resistance.narrowed.Goals as goal

pub returns-else-keeps_size-clause-bracket : goal.returns-else-keeps_size-clause-bracket
returns-else-keeps_size-clause-bracket c =
    let b = c.args.limit.now in
    let middle = c.args.high - (c.args.high - c.args.low) / 2 in
    let n = refused c.keeps_size.result (KeepsSize b.r b.x b.ratio b.size middle) c.if-keeps_size.false c.keeps_size.ensures in
    record {
      order = omega arith;
      top = omega arith;
      holding = c.requires.bracket.holding;
      most = λ m w. let less = kept_below b.r b.x b.ratio b.size m middle n w in omega arith;
    }
