use Rattle.fd_rungs.proofs.Products.{size_is}
use Rattle.fd_rungs.proofs.numbers.size_of_product.Goals as goal

pub returns-clause-value : goal.returns-clause-value
returns-clause-value c = size_is c.args.f c.args.z
