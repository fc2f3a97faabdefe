-- What a short circuit that is printed is, of states of any size.
use Rattle.fd_solving.specs.fd_outcome.Settles.{Settle}
use Rattle.fd_solving.specs.fd_daily.Underway.{plant_at}
use Rattle.fd_solving.specs.fd_settle.Rounds.{AtEach}
use Rattle.fd_solving.specs.Headline.{EnclosesAll, EnclosesAllSizes, IsSolved, claims_of, machine_of}

-- The settle of a short circuit is solved. Every state of any denominator, in no box, that meets the equations of its
-- circuit within the mismatches is within the radii, and the sizes of its voltages and currents, those of the fault
-- among them, are from low to high.
pub record IsStudy (s : Settle) : Type 0 where
  pub solved : IsSolved s
  pub encloses : AtEach (EnclosesAll s.circuit s.hour) (plant_at s.circuit s.hour) (machine_of s) (claims_of s)
  pub sizes : AtEach (EnclosesAllSizes s.circuit s.hour) (plant_at s.circuit s.hour) (machine_of s) (claims_of s)
