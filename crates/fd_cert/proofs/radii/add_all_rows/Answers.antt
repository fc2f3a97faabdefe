use Rattle.std.proofs.Common.{◌+◌, ℕ, refl}
use Rattle.fd_enclosure.specs.Radii.{radius_in, spread, spread_magnitude, spread_node}
use Rattle.fd_cert.proofs.Raising.{all_rows, raised_then}
use Rattle.fd_cert.proofs.radii.add_all_rows.Goals as goal

pub returns-clause-raised : goal.returns-clause-raised
returns-clause-raised c =
    let ps = c.args.pattern.now.places in
    let u = c.args.load.now in
    let s = c.args.slopes.now in
    let re = λ (p : ℕ × ℕ). radius_in p.1 u s.real in
    let im = λ (p : ℕ × ℕ). radius_in p.1 u s.imaginary in
    let m = λ (p : ℕ × ℕ). radius_in p.1 u s.magnitude in
    raised_then ps c.args.radii.now c.add_node_rows-2.new.radii c.add_magnitude_row.new.radii
    (λ p. spread_node p.0 u.first (re p) (im p) + spread_node p.0 u.second (re p) (im p))
    (λ p. spread_magnitude p.0 u.magnitude (m p)) (λ p. spread p.0 u (re p) (im p) (m p))
    (raised_then ps c.args.radii.now c.add_node_rows.new.radii c.add_node_rows-2.new.radii
    (λ p. spread_node p.0 u.first (re p) (im p)) (λ p. spread_node p.0 u.second (re p) (im p))
    (λ p. spread_node p.0 u.first (re p) (im p) + spread_node p.0 u.second (re p) (im p))
    c.add_node_rows.ensures.raised c.add_node_rows-2.ensures.raised (λ p. refl))
    c.add_magnitude_row.ensures.raised (λ p. all_rows u p (re p) (im p) (m p))
