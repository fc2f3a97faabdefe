use Rattle.std.proofs.Common.{◌≡◌, ◌++◌, take}
use Rattle.std.specs.List.{flat_map}
use Rattle.fd_pattern.specs.PatternPlaces.{load_places}
use Rattle.fd_pattern.proofs.places.add_load_places.Given as goal

abbrev pub invariant-loop-load : goal.invariant-loop-load
invariant-loop-load l = l.places.items ≡ l.initial.places.items ++ flat_map load_places (take l.load-index l.loads)
