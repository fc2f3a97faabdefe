use Rattle.std.proofs.Common.{arith, ◌∙◌, ◌≤◌, ◌^◌, ap, sym, subst}
use Rattle.std.proofs.lemmas.Result.{IfOk-weaker}
use Rattle.fd_enclosure.specs.fd_exact.States.{entry}
use Rattle.fd_enclosure.specs.fd_equations.Matrices.{MatrixView}
use Rattle.fd_enclosure.specs.fd_equations.Rounded.{jacobian_entry, list_of}
use Rattle.fd_enclosure.specs.fd_equations.Weights.{weight_at}
use Rattle.fd_enclosure.specs.Bounds.{bound_at}
use Rattle.fd_enclosure.specs.Radii.{slope_radius}
use Rattle.fd_cert.specs.Columns.{AreWeights, HasWeights}
use Rattle.fd_cert.specs.Slopes.{AreSlopes, HasSlopes}
use Rattle.fd_cert.specs.Totals.{AreWeighted}
use Rattle.fd_cert.proofs.SlopeRadii.{have_widths, is_made, jacobian_made}
use Rattle.fd_cert.proofs.certificate.bounds_at.Goals as goal

pub radii_at-requires-clause-boxes : goal.radii_at-requires-clause-boxes
radii_at-requires-clause-boxes c =
    have_widths 200 c.args.net.now c.args.x.now c.args.boxes.now c.requires.boxes (omega arith) c.requires.point

pub rows_by_weight-requires-clause-radii : goal.rows_by_weight-requires-clause-radii
rows_by_weight-requires-clause-radii c = record { long = c.in_ok-radii.ensures.long; J = _; has = c.in_ok-radii.ensures.radii 200 c.requires.boxes }

pub of-requires : goal.of-requires
of-requires c = is_made c.args.net.now c.args.x.now c.in_ok-jacobian.jacobian c.in_ok-jacobian.ensures

pub bounds-requires-clause-slopes : goal.bounds-requires-clause-slopes
bounds-requires-clause-slopes c =
    let v = c.args.net.now in
    let x = c.args.x.now in
    let ws = c.args.weights.now in
    let w = weight_at v x in
    let j = c.in_ok-jacobian.jacobian in
    let is = c.in_ok-jacobian.ensures in
    let size = c.in_ok-radii.ensures.size in
    let radii = c.in_ok-rows.ensures (slope_radius v x) w (c.in_ok-radii.ensures.radii 200 c.requires.boxes) (subst (λ n. HasWeights n ws w) (sym size) c.requires.values) in
    let plain : AreSlopes j c.in_ok-rows.rows.items ws = record {
      small = subst (λ n. n ≤ 2 ^ 11) (sym is.size) (subst (λ n. n ≤ 2 ^ 11) c.size-size.ensures.size c.size-size.ensures.small);
      jacobian = is_made v x j is;
      radii = radii.long ∙ size ∙ sym is.size;
      weights = subst (λ n. AreWeights n ws) (sym is.size) c.requires.weights;
    } in
    subst (λ m. AreSlopes m c.in_ok-rows.rows.items ws) (sym c.in_ok-walk.ensures.matrix) plain

pub returns : goal.returns
returns c =
    let v = c.args.net.now in
    let x = c.args.x.now in
    let w = weight_at v x in
    let J = jacobian_entry v x in
    let R = slope_radius v x in
    let ws = c.args.weights.now in
    let j = c.in_ok-jacobian.jacobian in
    let is = c.in_ok-jacobian.ensures in
    let size = c.in_ok-radii.ensures.size in
    let radii = c.in_ok-rows.ensures R w (c.in_ok-radii.ensures.radii 200 c.requires.boxes) (subst (λ n. HasWeights n ws w) (sym size) c.requires.values) in
    let plain : HasSlopes j c.in_ok-rows.rows.items ws J R w = record {
      jacobian = jacobian_made v x j is;
      radii = subst (λ n. AreWeighted n R w c.in_ok-rows.rows.items) (size ∙ sym is.size) radii;
      weights = subst (λ n. HasWeights n ws w) (sym is.size) c.requires.values;
    } in
    let h = subst (λ m. HasSlopes m c.in_ok-rows.rows.items ws J R w) (sym c.in_ok-walk.ensures.matrix) plain in
    let same = ap (λ (m : MatrixView). m.size) c.in_ok-walk.ensures.matrix ∙ is.size in
    IfOk-weaker c.bounds.result _ _ (λ bounds f. f J R w h ∙ ap (λ n. list_of n (bound_at n (entry c.args.inverse.now) J R w)) same) c.bounds.ensures
