use Rattle.std.proofs.Common.{◌∙◌, [], ap, arith}
use Rattle.fd_system.proofs.CallerLemmas.{one_more}
use Rattle.fd_xfmr.specs.Transformer.{list_at, phase_list}
use Rattle.fd_xfmr.proofs.terms.add_phases.Goals as goal

pub loop-k-preserved : goal.loop-k-preserved
loop-k-preserved c =
    let n = c.args.numbers.now in
    let i = c.loop-k.invariant in
    let d = c.add_phase.ensures in
    record {
      items = one_more [] _ _ _ (list_at n c.args.xfmr.now c.args.at.now) c.loop-k.k d.items i.items (ap (phase_list n) c.phase_at.ensures.place);
      capacity = d.capacity ∙ i.capacity;
      few = omega (arith, d.few, i.few);
    }
