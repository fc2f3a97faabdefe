use Rattle.std.proofs.Common.{◌≡◌, ◌∙◌, ℕ, List, IfOk, length, ap, sym, subst, rules}
use Rattle.fd_cert.specs.fd_enclosure.fd_equations.Rounded.{jacobian_entry}
use Rattle.fd_cert.specs.fd_enclosure.Boxes.{part_boxes}
use Rattle.fd_cert.proofs.CallerLemmas.{is_made}
use Rattle.fd_rowcert.specs.Equations.{AreEquationsOf, HaveCoefficients, HaveNumbersOf, Tells, first_wide, radii_by}
use Rattle.fd_rowcert.proofs.Written.{coefficients_told, first_told, later_told, weights_low, written_back}
use Rattle.fd_rowcert.proofs.state.state_equations.Goals as goal

pub equations_of-requires-clause-made : goal.equations_of-requires-clause-made
equations_of-requires-clause-made c = is_made c.args.net.now c.args.x.now c.in_ok-jacobian.jacobian
    c.in_ok-jacobian.ensures

pub returns-in-Err-clause-equations : goal.returns-in-Err-clause-equations
returns-in-Err-clause-equations c =
    let v = c.args.net.now in
    let x = c.args.x.now in
    let e = c.args.mismatch.now in
    let told = coefficients_told v x e c.in_ok-jacobian.jacobian c.in_ok-equations.field-0 c.in_ok-jacobian.ensures
    c.in_ok-equations.ensures in
    first_told (first_wide v.size (jacobian_entry v x)) (first_wide v.size (radii_by c.args.parts v x)) c.in-Err.row
    (subst (λ t. Tells (first_wide v.size (jacobian_entry v x)) t (λ es. HaveCoefficients v.size
    (jacobian_entry v x) e es.items)) c.in-Err.is told)

pub set_box-requires-clause-weights : goal.set_box-requires-clause-weights
set_box-requires-clause-weights c = c.deref.ensures.value ∙ c.in_ok-weights.ensures.weights

pub set_box-requires-clause-small : goal.set_box-requires-clause-small
set_box-requires-clause-small c =
    weights_low c.args.net.now.size c.in_ok-weights.weights.items c.deref.result.now c.deref.ensures.value
    c.in_ok-weights.ensures.range

pub set_box-requires-clause-long : goal.set_box-requires-clause-long
set_box-requires-clause-long c =
    let v = c.args.net.now in
    let x = c.args.x.now in
    let e = c.args.mismatch.now in
    let told = coefficients_told v x e c.in_ok-jacobian.jacobian c.in_ok-equations.field-0 c.in_ok-jacobian.ensures
    c.in_ok-equations.ensures in
    let have = subst (λ t. Tells (first_wide v.size (jacobian_entry v x)) t (λ es. HaveCoefficients v.size
    (jacobian_entry v x) e es.items)) c.in-Ok.is told in
    ap length c.deref_mut.ensures.value ∙ have.1.long

pub returns-in-Ok-2-clause-equations : goal.returns-in-Ok-2-clause-equations
returns-in-Ok-2-clause-equations c =
    let v = c.args.net.now in
    let x = c.args.x.now in
    let e = c.args.mismatch.now in
    let J = jacobian_entry v x in
    let told = coefficients_told v x e c.in_ok-jacobian.jacobian c.in_ok-equations.field-0 c.in_ok-jacobian.ensures
    c.in_ok-equations.ensures in
    let have = subst (λ t. Tells (first_wide v.size J) t
    (λ es. HaveCoefficients v.size J e es.items)) c.in-Ok.is told in
    let there = subst (HaveCoefficients v.size J e) (sym c.deref_mut.ensures.value) have.1 in
    let boxed = subst (λ t. Tells (first_wide v.size (radii_by c.args.parts v x)) t
    (λ boxes. boxes.items ≡ part_boxes c.args.parts v x)) c.in-Ok-2.is c.in_ok-boxes.ensures.told in
    let made = subst (λ t. IfOk t (λ _. (e : List ℕ) → HaveCoefficients v.size J e c.deref_mut.result.now
    → AreEquationsOf v c.args.parts x e c.set_box.new.equations)) c.in-Ok-2.is c.in_ok-boxes.ensures.equations e
    there in
    let len : c.in-Ok.equations.len ≡ length c.in-Ok.equations.items = search rules in
    let back = written_back v.size c.set_box.new.equations c.in-Ok.equations.items made.have.long have.1.long
    c.in-Ok.equations.len (len ∙ have.1.long) in
    (later_told _ _ _ have.0 boxed.0, subst (AreEquationsOf v c.args.parts x e) (sym back) made)

pub returns-in-Ok-2-clause-numbers : goal.returns-in-Ok-2-clause-numbers
returns-in-Ok-2-clause-numbers c =
    let v = c.args.net.now in
    let x = c.args.x.now in
    let e = c.args.mismatch.now in
    let J = jacobian_entry v x in
    let told = coefficients_told v x e c.in_ok-jacobian.jacobian c.in_ok-equations.field-0 c.in_ok-jacobian.ensures
    c.in_ok-equations.ensures in
    let have = subst (λ t. Tells (first_wide v.size J) t
    (λ es. HaveCoefficients v.size J e es.items)) c.in-Ok.is told in
    let there = subst (HaveCoefficients v.size J e) (sym c.deref_mut.ensures.value) have.1 in
    let made = subst (λ t. IfOk t (λ _. (e : List ℕ) → length e ≡ v.size
    → HaveCoefficients v.size J e c.deref_mut.result.now
    → HaveNumbersOf v c.args.parts x e c.set_box.new.equations)) c.in-Ok-2.is c.in_ok-boxes.ensures.numbers e
    c.requires.long there in
    let len : c.in-Ok.equations.len ≡ length c.in-Ok.equations.items = search rules in
    let back = written_back v.size c.set_box.new.equations c.in-Ok.equations.items made.long have.1.long
    c.in-Ok.equations.len (len ∙ have.1.long) in
    subst (HaveNumbersOf v c.args.parts x e) (sym back) made

pub returns-clause-equations : goal.returns-clause-equations
returns-clause-equations c =
    let v = c.args.net.now in
    let x = c.args.x.now in
    let e = c.args.mismatch.now in
    let J = jacobian_entry v x in
    let told = coefficients_told v x e c.in_ok-jacobian.jacobian c.in_ok-equations.field-0 c.in_ok-jacobian.ensures
    c.in_ok-equations.ensures in
    let have = subst (λ t. Tells (first_wide v.size J) t
    (λ es. HaveCoefficients v.size J e es.items)) c.in-Ok.is told in
    let boxed = subst (λ t. Tells (first_wide v.size (radii_by c.args.parts v x)) t
    (λ boxes. boxes.items ≡ part_boxes c.args.parts v x)) c.in-Err-2.is c.in_ok-boxes.ensures.told in
    later_told _ _ _ have.0 boxed
