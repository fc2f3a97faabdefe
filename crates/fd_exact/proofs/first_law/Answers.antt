use Rattle.fd_exact.specs.FirstLaws.{first_none, first_some, place_below, such_at, such_none}
use Rattle.fd_exact.proofs.first_law.Goals as goal

pub returns : goal.returns
returns c = record { none = first_none; first = first_some; below = place_below; no_element = such_none; first_element = such_at }
