use Rattle.std.proofs.Common.{arith}
use Rattle.fd_enclosure.proofs.CallerLemmas.fd_equations.{no_load}
use Rattle.fd_enclosure.specs.Sound.{number_at}
use Rattle.fd_cert.proofs.Raising.{loads_raised, next_load, none_yet, room_yet}
use Rattle.fd_cert.proofs.radii.add_loads.Goals as goal

pub loop-load-init : goal.loop-load-init
loop-load-init c = none_yet c.args.pattern.now.places c.args.radii.now (number_at c.args.boxes.now) c.args.x.now c.args.loads.now c.requires.none

pub add_load-requires-clause-room : goal.add_load-requires-clause-room
add_load-requires-clause-room c =
    room_yet c.args.pattern.now.places c.args.radii.now (number_at c.args.boxes.now) c.args.x.now c.args.loads.now
    c.loop-load.radii c.loop-load.load-index (omega (arith, c.loop-load-test.true, c.requires.few))
    c.loop-load.invariant

pub loop-load-preserved : goal.loop-load-preserved
loop-load-preserved c =
    next_load c.args.pattern.now.places c.args.radii.now (number_at c.args.boxes.now) c.args.x.now c.args.loads.now
    c.loop-load.radii c.add_load.new.radii c.loop-load.load-index no_load c.radii_of.result c.loop-load-test.true
    c.loop-load.invariant c.radii_of.ensures.radii c.add_load.ensures.raised c.add_load.ensures.room

pub returns-clause-raised : goal.returns-clause-raised
returns-clause-raised c =
    loads_raised c.args.pattern.now.places c.args.radii.now (number_at c.args.boxes.now) c.args.x.now c.args.loads.now
    c.loop-load.radii c.loop-load.load-index c.loop-load-test.false c.loop-load.invariant

pub returns-clause-room : goal.returns-clause-room
returns-clause-room c =
    room_yet c.args.pattern.now.places c.args.radii.now (number_at c.args.boxes.now) c.args.x.now c.args.loads.now
    c.loop-load.radii c.loop-load.load-index (omega (arith, c.loop-load.auto.load-index-end, c.requires.few))
    c.loop-load.invariant
