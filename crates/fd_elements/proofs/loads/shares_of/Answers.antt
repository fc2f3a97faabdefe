use Rattle.std.proofs.Common.{subst, sym}
use Rattle.dss_model.specs.InRange.{ZipSharesInRange}
use Rattle.fd_elements.proofs.Shares.{shares_or_none}
use Rattle.fd_elements.proofs.loads.shares_of.Goals as goal

pub returns-clause-range : goal.returns-clause-range
returns-clause-range c = subst ZipSharesInRange (sym c.unwrap_or.ensures) (shares_or_none c.args.load.now.zipv c.requires.zipv)
