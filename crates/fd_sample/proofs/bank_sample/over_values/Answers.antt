use Rattle.std.proofs.Common.{◌∙◌, ap, sym, subst, rules, ◌^◌, ℤ, FitsSigned}
use Rattle.std.specs.Int.{w128}
use Rattle.std.proofs.lemmas.Int.{to_z-of_z}
use Rattle.fd_regctl.specs.fd_queue.Decisions.{IsEdge}
use Rattle.fd_regctl.specs.fd_queue.Quantities.{value}
use Rattle.fd_sample.proofs.Banks.{least_at, greatest_at}
use Rattle.fd_sample.specs.Banks.{cap_decision, cap_edge}
use Rattle.fd_sample.specs.Samples.{least_value, greatest_value}
use Rattle.fd_sample.proofs.Samples.{value_sample, tells_edge}
use Rattle.fd_sample.proofs.Banks.{cap_edged}
use Rattle.fd_sample.proofs.bank_sample.over_values.Goals as goal

pub returns : goal.returns
returns c =
    let p = c.args.probe.now in
    let t = c.args.closed in
    let s = c.args.values in
    let fits : FitsSigned w128 c.edge_of.result = search rules in
    let edge = to_z-of_z w128 c.edge_of.result fits ∙ c.edge_of.ensures.value in
    let fits_least : FitsSigned w128 c.value_ends-least.result.0 = search rules in
    let fits_greatest : FitsSigned w128 c.value_ends-least.result.1 = search rules in
    let low = c.wanted_at_value-low.ensures.decision
    ∙ ap (λ (z : ℤ). cap_decision p t (value z (10 ^ 6))) (to_z-of_z w128 c.value_ends-least.result.0 fits_least) in
    let high = c.wanted_at_value-high.ensures.decision
    ∙ ap (λ (z : ℤ). cap_decision p t (value z (10 ^ 6)))
    (to_z-of_z w128 c.value_ends-least.result.1 fits_greatest) in
    let sample = value_sample (cap_decision p t) (λ d. cap_edge p t) s c.agreed_value.result c.wanted_at_value-low.result c.wanted_at_value-high.result _
    (least_at p t s c.wanted_at_value-low.result c.value_ends-least.result.0 c.value_ends-least.result.1 c.value_ends-least.ensures low)
    (greatest_at p t s c.wanted_at_value-high.result c.value_ends-least.result.0 c.value_ends-least.result.1 c.value_ends-least.ensures high)
    edge c.agreed_value.ensures.decides c.agreed_value.ensures.ends c.agreed_value.ensures.edge in
    record {
      sample = sample;
      edge = λ some. tells_edge (cap_decision p t) (least_value s) (greatest_value s) _ c.agreed_value.result
          (λ none. subst (λ (z : ℤ). IsEdge (cap_decision p t) (least_value s) (greatest_value s) z) (sym edge)
          (cap_edged p t s (least_value s) (greatest_value s) some (sym sample.decides ∙ none)))
          c.agreed_value.ensures.edge;
    }
