use Rattle.std.proofs.Common.{◌+◌, cond, eqb}
use Rattle.fd_enclosure.specs.Radii.{radius_in, spread_magnitude, spread_node}
use Rattle.fd_cert.proofs.Raising.{raised_then, three_in_row, two_in_row}
use Rattle.fd_cert.proofs.radii.add_row.Goals as goal

pub returns-clause-raised : goal.returns-clause-raised
returns-clause-raised c =
    let ps = c.args.pattern.now.places in
    let u = c.args.load.now in
    let r = c.args.slope in
    let row = c.args.row in
    raised_then ps c.args.radii.now c.add_node-2.new.radii c.add_magnitude.new.radii
    (λ p. cond (eqb row p.0) (spread_node p.1 u.first r.p r.q + spread_node p.1 u.second r.p r.q) 0)
    (λ p. cond (eqb row p.0) (spread_magnitude p.1 u.magnitude r.m) 0) (λ p. cond (eqb row p.0) (radius_in p.1 u r) 0)
    (raised_then ps c.args.radii.now c.add_node.new.radii c.add_node-2.new.radii
    (λ p. cond (eqb row p.0) (spread_node p.1 u.first r.p r.q) 0)
    (λ p. cond (eqb row p.0) (spread_node p.1 u.second r.p r.q) 0)
    (λ p. cond (eqb row p.0) (spread_node p.1 u.first r.p r.q + spread_node p.1 u.second r.p r.q) 0)
    c.add_node.ensures.raised c.add_node-2.ensures.raised (two_in_row row u r))
    c.add_magnitude.ensures.raised (three_in_row row u r)
