use Rattle.std.proofs.Common.{◌∙◌, sym}
use Rattle.fd_enclosure.specs.Radii.{load_radius, radius_in, spread}
use Rattle.fd_cert.proofs.Raising.{load_linear, load_other, raised_as, raised_none}
use Rattle.fd_cert.proofs.radii.add_load.Goals as goal

pub returns-then-not-is_linear-clause-raised : goal.returns-then-not-is_linear-clause-raised
returns-then-not-is_linear-clause-raised c =
    let u = c.args.load.now in
    let s = c.args.slopes.now in
    raised_as c.args.pattern.now.places c.args.radii.now c.add_all_rows.new.radii
    (λ p. spread p.0 u (radius_in p.1 u s.real) (radius_in p.1 u s.imaginary) (radius_in p.1 u s.magnitude))
    (λ p. load_radius u s p.0 p.1) c.add_all_rows.ensures.raised
    (λ p. load_other u s p (sym c.is_linear.ensures ∙ c.if-not-is_linear.true))

pub returns-else-not-is_linear-clause-raised : goal.returns-else-not-is_linear-clause-raised
returns-else-not-is_linear-clause-raised c =
    raised_none c.args.pattern.now.places c.args.radii.now
    (λ p. load_radius c.args.load.now c.args.slopes.now p.0 p.1)
    (λ p. load_linear c.args.load.now c.args.slopes.now p (sym c.is_linear.ensures ∙ c.if-not-is_linear.false))
