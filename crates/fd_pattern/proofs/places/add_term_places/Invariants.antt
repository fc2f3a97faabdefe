use Rattle.std.proofs.Common.{◌≡◌, ◌++◌, map, take}
use Rattle.fd_pattern.specs.PatternPlaces.{place_of}
use Rattle.fd_pattern.proofs.places.add_term_places.Given as goal

abbrev pub invariant-loop-term : goal.invariant-loop-term
invariant-loop-term l = l.places.items ≡ l.initial.places.items ++ map place_of (take l.term-index l.terms)
