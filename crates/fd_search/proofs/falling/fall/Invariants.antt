use Rattle.std.proofs.Common.{◌≡◌}
use Rattle.fd_cert.specs.fd_enclosure.Sound.{mismatches_of}
use Rattle.fd_inject.specs.fd_equations.fd_pattern.Conditions.{IsPoint}
use Rattle.fd_search.specs.States.{Fall, state_after}
use Rattle.fd_search.proofs.falling.fall.Given as goal

abbrev pub invariant-loop-more : goal.invariant-loop-more
invariant-loop-more l = record {
  state : l.x ≡ state_after l.net l.order l.rows l.initial.x l.more;
  fall : Fall l.net l.order l.rows l.initial.x l.more;
  mismatches : l.mismatches.items ≡ mismatches_of l.net l.x;
  point : IsPoint l.net l.x;
}
