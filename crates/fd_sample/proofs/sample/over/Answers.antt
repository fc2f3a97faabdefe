use Rattle.std.proofs.Common.{◌∙◌, ap, sym, subst, rules, ℤ, FitsSigned}
use Rattle.std.specs.Int.{w128}
use Rattle.std.proofs.lemmas.Int.{to_z-of_z}
use Rattle.fd_regctl.specs.fd_queue.Decisions.{IsEdge}
use Rattle.fd_regctl.specs.fd_queue.Quantities.{magnitude}
use Rattle.fd_sample.specs.Regulators.{wanted_at, edge_at}
use Rattle.fd_sample.specs.Samples.{least_root, greatest_root}
use Rattle.fd_sample.proofs.Samples.{root_sample, tells_edge}
use Rattle.fd_sample.proofs.Regulators.{reg_edged}
use Rattle.fd_sample.proofs.sample.over.Goals as goal

pub returns : goal.returns
returns c =
    let p = c.args.probe.now in
    let tap = c.args.tap in
    let s = c.args.squares in
    let fits : FitsSigned w128 c.edge_after.result = search rules in
    let low = c.wanted-low.ensures.decision ∙ ap (λ n. wanted_at p tap (magnitude n 1)) c.square_ends-least.ensures.least in
    let edge = to_z-of_z w128 c.edge_after.result fits ∙ (c.edge_after.ensures tap ∙ ap (edge_at p tap) low) in
    let sample = root_sample (wanted_at p tap) (edge_at p tap) s c.agreed.result c.wanted-low.result c.wanted-high.result _
    (λ some. low)
    (λ some. c.wanted-high.ensures.decision ∙ ap (λ n. wanted_at p tap (magnitude n 1)) (c.square_ends-least.ensures.greatest some))
    edge c.agreed.ensures.decides c.agreed.ensures.ends c.agreed.ensures.edge in
    record {
      sample = sample;
      edge = tells_edge (wanted_at p tap) (least_root s) (greatest_root s) _ c.agreed.result
          (λ none. subst (λ (z : ℤ). IsEdge (wanted_at p tap) (least_root s) (greatest_root s) z) (sym edge)
          (reg_edged p tap s c.requires.settings (sym sample.decides ∙ none)))
          c.agreed.ensures.edge;
    }
