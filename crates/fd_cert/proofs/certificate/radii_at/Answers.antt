use Rattle.std.proofs.Common.{◌∙◌, ℕ, ◌<◌, List, length, arith, ap, sym, subst}
use Rattle.std.specs.List.{All}
use Rattle.fd_enclosure.specs.fd_equations.Matrices.{matrix_with}
use Rattle.fd_enclosure.specs.fd_pattern.Patterns.{PatternView, key}
use Rattle.fd_enclosure.specs.fd_pattern.Terminals.{IsConnected}
use Rattle.fd_enclosure.specs.Sound.{number_at}
use Rattle.fd_cert.specs.Places.{AreRadiusCells, loads_radius}
use Rattle.fd_cert.proofs.SlopeRadii.{boxes_at, loads_connected, radii_made}
use Rattle.fd_cert.proofs.certificate.radii_at.Goals as goal

pub load_radii-requires-clause-size : goal.load_radii-requires-clause-size
load_radii-requires-clause-size c = omega (arith, c.requires.point.long, c.size-size.ensures.small, c.size-size.ensures.size)

pub load_radii-requires-clause-loads : goal.load_radii-requires-clause-loads
load_radii-requires-clause-loads c =
    subst (All (IsConnected (length c.args.x.now))) (sym c.loads.ensures)
    (subst (λ n. All (IsConnected n) c.args.net.now.stamp.loads) (sym c.requires.point.long)
    (loads_connected c.args.net.now c.size-size.ensures.valid))

pub load_radii-requires-clause-few : goal.load_radii-requires-clause-few
load_radii-requires-clause-few c = let n = c.size-size.ensures.valid in omega (arith, ap length c.loads.ensures, n.few_loads)

pub returns-clause-radii : goal.returns-clause-radii
returns-clause-radii c parts is =
    let v = c.args.net.now in
    let x = c.args.x.now in
    let j = c.args.jacobian.now in
    let ps = ap (λ (p : PatternView). p.places) c.pattern-pattern.ensures in
    radii_made v x j c.requires.jacobian parts c.args.boxes.now (boxes_at parts v x c.args.boxes.now is)
    (loads_connected v c.size-size.ensures.valid) c.deref.result.now c.in_ok-cells.cells.items
    (λ k l. ap (λ xs. number_at xs k) c.deref.ensures.value
    ∙ c.in_ok-loads.ensures.radii k (subst (λ (q : List (ℕ × ℕ)). k < length q) (sym ps) l)
    ∙ (λ i. loads_radius (number_at c.args.boxes.now) x (c.loads.ensures i) (key (ps i) k)))
    (subst (λ cs. AreRadiusCells cs c.deref.result.now c.in_ok-cells.cells.items) c.cells.ensures
    c.in_ok-cells.ensures)
    c.new.result
    (c.new.ensures ∙ ap (λ (p : PatternView). matrix_with p c.in_ok-cells.cells.items) c.pattern-pattern.ensures)
