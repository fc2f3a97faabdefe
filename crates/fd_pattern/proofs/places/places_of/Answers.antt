use Rattle.std.proofs.Common.{◌^◌}
use Rattle.fd_pattern.proofs.Inside.{firsts_few, seconds_few}
use Rattle.fd_pattern.proofs.places.places_of.Goals as goal

pub add_load_places-requires : goal.add_load_places-requires
add_load_places-requires c = record {
  first = firsts_few (2 ^ 11) c.args.loads.now c.requires;
  second = seconds_few (2 ^ 11) c.args.loads.now c.requires;
}
