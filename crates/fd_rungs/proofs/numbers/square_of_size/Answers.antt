use Rattle.std.proofs.Common.{arith}
use Rattle.std.proofs.Math.Nat.{mul-le-mul}
use Rattle.fd_rungs.proofs.numbers.square_of_size.Goals as goal

pub overflow_mul-result : goal.overflow_mul-result
overflow_mul-result c = let square = mul-le-mul c.requires c.requires in omega (arith, square)

pub returns-clause-most : goal.returns-clause-most
returns-clause-most c = let square = mul-le-mul c.requires c.requires in omega (arith, square)
