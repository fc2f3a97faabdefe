use Rattle.fd_slope.proofs.Sizes.{inside_part}
use Rattle.fd_slope.proofs.power.radius_inside.Goals as goal

pub turned_inside-requires-clause-inside : goal.turned_inside-requires-clause-inside
turned_inside-requires-clause-inside c = let b = c.args.b.now in inside_part c.args.load.now b.p b.q b.rp b.rq c.requires.inside
