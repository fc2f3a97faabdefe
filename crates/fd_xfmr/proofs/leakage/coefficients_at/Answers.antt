use Rattle.std.proofs.Common.{◌∙◌, ◌*◌, refl, subst, sym}
use Rattle.fd_xfmr.specs.Windings.{first_volts, second_volts}
use Rattle.fd_xfmr.specs.Leakage.{AreWithin, nominal_reactance, nominal_resistance}
use Rattle.fd_xfmr.proofs.Products.{read, product_is, voltage_small, ohms_small, coefficients_same}
use Rattle.fd_xfmr.proofs.Numbers.{are_within}
use Rattle.fd_xfmr.proofs.leakage.coefficients_at.Goals as goal

pub returns-clause-coefficients : goal.returns-clause-coefficients
returns-clause-coefficients c =
    let d = c.args.xfmr.now in
    let t = c.args.taps in
    let u = c.second_volts in
    let v = c.first_volts in
    let r = c.resistance in
    let x = c.reactance in
    coefficients_same d t _ _ _ _ (product_is c.product.result _ (second_volts d) _ t.second c.product.ensures.value
    (read u.result (voltage_small u.result u.ensures.within) ∙ u.ensures.value) refl c.product.ensures.within)
    (product_is c.product-2.result _ (first_volts d) _ t.first c.product-2.ensures.value
    (read v.result (voltage_small v.result v.ensures.within) ∙ v.ensures.value) refl c.product-2.ensures.within)
    (product_is c.product-3.result _ (nominal_resistance d) _ (t.second * t.second) c.product-3.ensures.value
    (read r.result (ohms_small r.result r.ensures.within) ∙ r.ensures.value) c.square.ensures.value
    c.product-3.ensures.within)
    (product_is c.product-4.result _ (nominal_reactance d) _ (t.second * t.second) c.product-4.ensures.value
    (read x.result (ohms_small x.result x.ensures.within) ∙ x.ensures.value) c.square-2.ensures.value
    c.product-4.ensures.within)

pub returns-clause-within : goal.returns-clause-within
returns-clause-within c =
    let a = c.args in
    subst AreWithin (sym (returns-clause-coefficients c)) (are_within a.xfmr.now a.taps c.requires.xfmr c.requires.taps)
