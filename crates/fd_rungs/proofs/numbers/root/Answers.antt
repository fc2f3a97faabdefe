use Rattle.std.proofs.Common.{sym}
use Rattle.fd_rungs.proofs.Products.{root_below, root_is}
use Rattle.fd_rungs.proofs.numbers.root.Goals as goal

pub returns : goal.returns
returns c = record {
  value = sym (root_is c.args.n c.isqrt.result c.isqrt.ensures.square_le c.isqrt.ensures.next_square_gt);
  most = root_below c.args.n c.isqrt.result c.isqrt.ensures.square_le;
}
