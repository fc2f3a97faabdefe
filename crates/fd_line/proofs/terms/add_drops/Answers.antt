use Rattle.std.proofs.Common.{rules, arith, ◌∙◌, FitsSigned}
use Rattle.std.specs.Int.{w128}
use Rattle.std.proofs.lemmas.Int.{to_z-of_z}
use Rattle.fd_system.specs.Series.{drop_at, drop_terms}
use Rattle.fd_system.proofs.CallerLemmas.{one_more}
use Rattle.fd_line.specs.Totals.{reactance_of, resistance_of}
use Rattle.fd_line.proofs.terms.add_drops.Goals as goal

pub loop-m-preserved : goal.loop-m-preserved
loop-m-preserved c =
    let l = c.args.line.now in
    let i = c.loop-m.invariant in
    let d = c.add_drop.ensures in
    let fr : FitsSigned w128 c.resistance-r.result = search rules in
    let fx : FitsSigned w128 c.reactance-x.result = search rules in
    let p = to_z-of_z w128 c.resistance-r.result fr ∙ c.resistance-r.ensures.value in
    let q = to_z-of_z w128 c.reactance-x.result fx ∙ c.reactance-x.ensures.value in
    record {
      items = one_more _ _ _ _ (drop_at (resistance_of l) (reactance_of l) c.args.branch c.args.k) c.loop-m.m d.items i.items
          (λ j. drop_terms c.args.branch c.args.k c.loop-m.m (p j) (q j));
      capacity = d.capacity ∙ i.capacity;
      few = omega (arith, d.few, i.few);
    }
