use Rattle.fd_inject.proofs.Limited.{inverse_err, inverse_ok}
use Rattle.fd_inject.proofs.ranges.inverse_within.Goals as goal

pub returns-in-Ok-clause-inverse : goal.returns-in-Ok-clause-inverse
returns-in-Ok-clause-inverse c = inverse_ok c.args.a.now c.in-Ok.inverse c.requires c.in-Ok.ensures.inverse

pub returns-in-Err-NoInverse-clause-inverse : goal.returns-in-Err-NoInverse-clause-inverse
returns-in-Err-NoInverse-clause-inverse c =
    inverse_err c.args.a.now c.in-Err-NoInverse.column c.in-Err-NoInverse.cause c.requires
    (rw c.in-Err-NoInverse.field-0-is at c.in-Err-NoInverse.ensures.fault)
