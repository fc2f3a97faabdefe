-- The shares of a load are in their ranges.
use Rattle.std.proofs.Common.{pos, Option, Some, None, IfSome, arith}
use Rattle.std.proofs.lemmas.Int.{ints}
use Rattle.std.specs.Option.{unwrap_or}
use Rattle.dss_model.specs.declared.load.ZipShares.{ZipShares}
use Rattle.dss_model.specs.Ranges.{IsShare}
use Rattle.dss_model.specs.InRange.{ZipSharesInRange}
use Rattle.fd_elements.specs.Loads.{no_shares}

no_share : IsShare (pos 0)
no_share = record { least = omega (arith, ints); most = omega (arith, ints) }

pub shares_or_none : (given : Option ZipShares) → IfSome given ZipSharesInRange → ZipSharesInRange (unwrap_or given no_shares)
shares_or_none (Some shares) h = h
shares_or_none None h = record {
  p = record { impedance = no_share; current = no_share; power = no_share };
  q = record { impedance = no_share; current = no_share; power = no_share };
}
