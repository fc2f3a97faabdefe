use Rattle.std.proofs.Common.{◌∙◌, sym}
use Rattle.fd_inject.proofs.Limited.{inverse_past}
use Rattle.fd_inject.proofs.ranges.inverse.Goals as goal

pub returns-in-Some-clause-inverse : goal.returns-in-Some-clause-inverse
returns-in-Some-clause-inverse c = inverse_past c.args.a.now c.in-Some.column (sym c.in-Some.is ∙ c.first_column_past.ensures.first)
