use Rattle.std.proofs.Common.{◌∙◌, ◌*ℤ◌, ◌≤◌, ◌^◌, ◌++◌, ℤ, pos, neg_ℤ, nat_abs, FitsSigned, arith, ap}
use Rattle.std.specs.Int.{w128}
use Rattle.std.proofs.lemmas.Int.{ints, to_z-of_z}
use Rattle.fd_xfmr.specs.fd_system.Contributions.{shunt_list}
use Rattle.fd_devices.proofs.phase_loads.add_impedance.Goals as goal

small_fits : (z : ℤ) → nat_abs z ≤ 10 ^ 27 → FitsSigned w128 z
small_fits z h = omega (arith, ints, h)

pub returns-clause-items : goal.returns-clause-items
returns-clause-items c =
    let load = c.args.phase.now.load in
    let fp = small_fits load.p (omega (arith, c.requires.phase.p)) in
    let fq = small_fits load.q (omega (arith, c.requires.phase.q)) in
    let p = to_z-of_z w128 c.scaled.result (small_fits c.scaled.result c.scaled.ensures.most)
    ∙ c.scaled.ensures.value
    ∙ ap (λ z. pos (10 ^ 9) *ℤ z) (to_z-of_z w128 load.p fp) in
    let r = to_z-of_z w128 c.scaled-2.result (small_fits c.scaled-2.result c.scaled-2.ensures.most)
    ∙ c.scaled-2.ensures.value
    ∙ ap (λ z. pos (10 ^ 9) *ℤ z) (to_z-of_z w128 load.q fq) in
    let q = to_z-of_z w128 c.opposite.result (small_fits c.opposite.result c.opposite.ensures.most) ∙ c.opposite.ensures.value ∙ ap neg_ℤ r in
    let v = c.requires.phase.voltages in
    let fv = small_fits load.vn (omega (arith, ints, v.nominal_least, v.nominal_most)) in
    let w = to_z-of_z w128 load.vn fv in
    let d = to_z-of_z w128 c.square.result (small_fits c.square.result (omega (arith, c.square.ensures.most))) ∙ c.square.ensures.value ∙ (λ i. w i *ℤ w i) in
    let phase = c.args.phase.now in
    c.add_shunt.ensures.items ∙ (λ i. c.args.terms.now.items ++ shunt_list phase.first phase.second (p i) (q i) (d i))
