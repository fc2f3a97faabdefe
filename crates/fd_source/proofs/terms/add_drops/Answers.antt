use Rattle.std.proofs.Common.{rules, arith, ◌∙◌, FitsSigned}
use Rattle.std.specs.Int.{w128}
use Rattle.std.proofs.lemmas.Int.{to_z-of_z}
use Rattle.fd_system.specs.Series.{drop_at, drop_terms}
use Rattle.fd_system.proofs.CallerLemmas.{one_more}
use Rattle.fd_source.specs.Equations.{reactance_of, resistance_of}
use Rattle.fd_source.proofs.terms.add_drops.Goals as goal

pub loop-m-preserved : goal.loop-m-preserved
loop-m-preserved c =
    let s = c.args.source.now in
    let i = c.loop-m.invariant in
    let d = c.add_drop.ensures in
    let z = c.impedance-r in
    let fr : FitsSigned w128 z.result.0 = search rules in
    let fx : FitsSigned w128 z.result.1 = search rules in
    let p = to_z-of_z w128 z.result.0 fr ∙ z.ensures.r in
    let q = to_z-of_z w128 z.result.1 fx ∙ z.ensures.x in
    record {
      items = one_more _ _ _ _ (drop_at (resistance_of s) (reactance_of s) c.args.branch c.args.k) c.loop-m.m d.items i.items
          (λ j. drop_terms c.args.branch c.args.k c.loop-m.m (p j) (q j));
      capacity = d.capacity ∙ i.capacity;
      few = omega (arith, d.few, i.few);
    }
