use Rattle.std.proofs.Common.{◌∙◌, ◌*◌, ◌^◌, pos, FitsSigned, rules, arith}
use Rattle.std.specs.Int.{w128}
use Rattle.std.proofs.lemmas.Int.{to_z-of_z}
use Rattle.fd_system.specs.Contributions.{complex_terms}
use Rattle.fd_system.proofs.CallerLemmas.{one_more}
use Rattle.fd_line.specs.Line.{charge_at}
use Rattle.fd_line.proofs.terms.add_charges.Goals as goal

pub loop-m-preserved : goal.loop-m-preserved
loop-m-preserved c =
    let i = c.loop-m.invariant in
    let d = c.add_imaginary.ensures in
    let b = c.susceptance-charge.result in
    let f : FitsSigned w128 b = search rules in
    let e = to_z-of_z w128 b f ∙ c.susceptance-charge.ensures.value in
    let n = c.node-row.ensures.node in
    let m = c.node.ensures.node in
    record {
      items = one_more _ _ _ _ (charge_at c.args.line.now c.args.nodes.now c.args.k) c.loop-m.m d.items i.items
          (λ j. complex_terms (n j) (m j) (pos 0) (e j) (pos (2 * 10 ^ 27)));
      capacity = d.capacity ∙ i.capacity;
      few = omega (arith, d.few, i.few);
    }
