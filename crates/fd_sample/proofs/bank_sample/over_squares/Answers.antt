use Rattle.std.proofs.Common.{◌∙◌, ap, sym, subst, rules, ℕ, ℤ, FitsSigned}
use Rattle.std.specs.Int.{w128}
use Rattle.std.proofs.lemmas.Int.{to_z-of_z}
use Rattle.fd_regctl.specs.fd_queue.Decisions.{IsEdge}
use Rattle.fd_regctl.specs.fd_queue.Quantities.{magnitude}
use Rattle.fd_sample.specs.Banks.{cap_decision, cap_edge}
use Rattle.fd_sample.specs.Samples.{least_root, greatest_root}
use Rattle.fd_sample.proofs.Samples.{root_sample, tells_edge}
use Rattle.fd_sample.proofs.Banks.{cap_edged}
use Rattle.fd_sample.proofs.bank_sample.over_squares.Goals as goal

pub returns : goal.returns
returns c =
    let p = c.args.probe.now in
    let t = c.args.closed in
    let s = c.args.squares in
    let fits : FitsSigned w128 c.edge_of.result = search rules in
    let edge = to_z-of_z w128 c.edge_of.result fits ∙ c.edge_of.ensures.value in
    let sample = root_sample (cap_decision p t) (λ d. cap_edge p t) s c.agreed.result c.wanted_at_root-low.result c.wanted_at_root-high.result _
    (λ some. c.wanted_at_root-low.ensures.decision ∙ ap (λ (n : ℕ). cap_decision p t (magnitude n 1)) c.square_ends-least.ensures.least)
    (λ some. c.wanted_at_root-high.ensures.decision ∙ ap (λ (n : ℕ). cap_decision p t (magnitude n 1)) (c.square_ends-least.ensures.greatest some))
    edge c.agreed.ensures.decides c.agreed.ensures.ends c.agreed.ensures.edge in
    record {
      sample = sample;
      edge = λ some. tells_edge (cap_decision p t) (least_root s) (greatest_root s) _ c.agreed.result
          (λ none. subst (λ (z : ℤ). IsEdge (cap_decision p t) (least_root s) (greatest_root s) z) (sym edge)
          (cap_edged p t s (least_root s) (greatest_root s) some (sym sample.decides ∙ none)))
          c.agreed.ensures.edge;
    }
