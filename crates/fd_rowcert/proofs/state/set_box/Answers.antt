use Rattle.std.proofs.Common.{◌∙◌, pos, length, ap, sym, subst}
use Rattle.fd_cert.specs.fd_enclosure.Radii.{part_radius}
use Rattle.fd_cert.specs.fd_enclosure.fd_equations.Rounded.{jacobian_entry}
use Rattle.fd_cert.specs.fd_enclosure.fd_equations.Weights.{weight_at}
use Rattle.fd_cert.proofs.CallerLemmas.{boxes_are, have_widths, jacobian_made, weights_at}
use Rattle.fd_cert.proofs.CallerLemmas.fd_enclosure.fd_equations.{length-list_of}
use Rattle.fd_rowcert.specs.Equations.{AreEquations, EndsBy, HaveCoefficients, first_wide, radii_by, radii_in}
use Rattle.fd_rowcert.proofs.Numbers.{have_numbers}
use Rattle.fd_rowcert.proofs.state.set_box.Goals as goal

pub half_widths-requires-clause-long : goal.half_widths-requires-clause-long
half_widths-requires-clause-long c =
    ap length c.requires.weights ∙ length-list_of c.args.net.now.size (λ place. pos
    (weight_at c.args.net.now c.args.x.now place))

pub radii_at-requires-clause-boxes : goal.radii_at-requires-clause-boxes
radii_at-requires-clause-boxes c =
    let v = c.args.net.now in
    let x = c.args.x.now in
    have_widths c.args.parts v x c.deref.result.now
    (c.deref.ensures.value
    ∙ boxes_are c.args.parts v x c.args.weights.now c.in_ok-boxes.boxes.items
    (weights_at v x c.args.weights.now c.requires.weights) c.in_ok-boxes.ensures)
    c.requires.parts c.requires.point

pub set_radii-requires-clause-made : goal.set_radii-requires-clause-made
set_radii-requires-clause-made c =
    let v = c.args.net.now in
    let x = c.args.x.now in
    let is = c.deref.ensures.value
    ∙ boxes_are c.args.parts v x c.args.weights.now c.in_ok-boxes.boxes.items
    (weights_at v x c.args.weights.now c.requires.weights) c.in_ok-boxes.ensures in
    record {
      long = c.in_ok-radii.ensures.long;
      J = radii_by c.args.parts v x;
      has = c.in_ok-radii.ensures.radii c.args.parts is;
    }

pub returns-in-Some-clause-told : goal.returns-in-Some-clause-told
returns-in-Some-clause-told c =
    let v = c.args.net.now in
    let x = c.args.x.now in
    let R = part_radius c.args.parts v x in
    let is = boxes_are c.args.parts v x c.args.weights.now c.in_ok-boxes.boxes.items
    (weights_at v x c.args.weights.now c.requires.weights)
    c.in_ok-boxes.ensures in
    let radii = c.in_ok-radii.ensures.radii c.args.parts (c.deref.ensures.value ∙ is) in
    ap (λ n. first_wide n (radii_in R)) (sym c.in_ok-radii.ensures.size)
    ∙ sym (c.in_ok-row.ensures.first R radii) ∙ c.in-Some.is

pub returns-in-None-clause-told : goal.returns-in-None-clause-told
returns-in-None-clause-told c =
    let v = c.args.net.now in
    let x = c.args.x.now in
    let R = part_radius c.args.parts v x in
    let is = boxes_are c.args.parts v x c.args.weights.now c.in_ok-boxes.boxes.items
    (weights_at v x c.args.weights.now c.requires.weights)
    c.in_ok-boxes.ensures in
    let radii = c.in_ok-radii.ensures.radii c.args.parts (c.deref.ensures.value ∙ is) in (
      ap (λ n. first_wide n (radii_in R)) (sym c.in_ok-radii.ensures.size)
          ∙ sym (c.in_ok-row.ensures.first R radii) ∙ c.in-None.is,
      is,
    )

pub returns-in-Some-clause-kept : goal.returns-in-Some-clause-kept
returns-in-Some-clause-kept c = λ e h.
    let J = jacobian_entry c.args.net.now c.args.x.now in
    subst (λ n. HaveCoefficients n J e c.set_radii.new.equations) c.in_ok-radii.ensures.size
    (c.in_ok-row.ensures.kept J e (subst (λ n. HaveCoefficients n J e c.args.equations.now)
    (sym c.in_ok-radii.ensures.size) h))

pub returns-in-None-clause-kept : goal.returns-in-None-clause-kept
returns-in-None-clause-kept c = λ e h.
    let J = jacobian_entry c.args.net.now c.args.x.now in
    subst (λ n. HaveCoefficients n J e c.set_radii.new.equations) c.in_ok-radii.ensures.size
    (c.in_ok-row.ensures.kept J e (subst (λ n. HaveCoefficients n J e c.args.equations.now)
    (sym c.in_ok-radii.ensures.size) h))

pub returns-in-None-clause-equations : goal.returns-in-None-clause-equations
returns-in-None-clause-equations c = λ e h.
    let J = jacobian_entry c.args.net.now c.args.x.now in
    let v = c.args.net.now in
    let x = c.args.x.now in
    let R = part_radius c.args.parts v x in
    let is = boxes_are c.args.parts v x c.args.weights.now c.in_ok-boxes.boxes.items
    (weights_at v x c.args.weights.now c.requires.weights)
    c.in_ok-boxes.ensures in
    let radii = c.in_ok-radii.ensures.radii c.args.parts (c.deref.ensures.value ∙ is) in
    subst (λ n. AreEquations n J R e c.set_radii.new.equations) c.in_ok-radii.ensures.size
    (c.in_ok-row.ensures.equations c.in-None.is J R e
    (subst (λ n. HaveCoefficients n J e c.args.equations.now) (sym c.in_ok-radii.ensures.size) h) radii)

pub returns-in-None-clause-numbers : goal.returns-in-None-clause-numbers
returns-in-None-clause-numbers c = λ e long h.
    let v = c.args.net.now in
    let x = c.args.x.now in
    let J = jacobian_entry v x in
    let R = part_radius c.args.parts v x in
    let is = boxes_are c.args.parts v x c.args.weights.now c.in_ok-boxes.boxes.items
    (weights_at v x c.args.weights.now c.requires.weights)
    c.in_ok-boxes.ensures in
    let radii = c.in_ok-radii.ensures.radii c.args.parts (c.deref.ensures.value ∙ is) in
    let j = c.requires.jacobian in
    have_numbers v.size J R e c.set_radii.new.equations
    (subst (λ n. AreEquations n J R e c.set_radii.new.equations) c.in_ok-radii.ensures.size
    (c.in_ok-row.ensures.equations c.in-None.is J R e
    (subst (λ n. HaveCoefficients n J e c.args.equations.now) (sym c.in_ok-radii.ensures.size) h) radii))
    long (subst (λ n. EndsBy n J) j.size (c.ends.ensures J (jacobian_made v x c.args.jacobian.now j)))
    (subst (λ n. EndsBy n (radii_in R)) c.in_ok-radii.ensures.size (c.ends-2.ensures (radii_in R) radii))
