use Rattle.fd_devices.specs.Settings.{settings_in}
use Rattle.fd_devices.proofs.Keeping.{places_inside, small_ends_of}
use Rattle.fd_devices.proofs.kept.kept_of.Goals as goal

pub add_places-requires-clause-ends : goal.add_places-requires-clause-ends
add_places-requires-clause-ends c =
    small_ends_of c.args.layout.now c.args.place c.args.element.now c.in_ok-at.at c.requires.place.magnitudes.few
    c.requires.ready.sited c.in_ok-at.ensures

pub returns-clause-inside : goal.returns-clause-inside
returns-clause-inside c =
    places_inside c.args.layout.now c.args.hertz c.args.place c.args.element.now (settings_in c.args.own.now)
    c.requires.ready.sited c.in_ok-stamp.ensures.settled
