use Rattle.std.proofs.Common.{◌≡◌, ◌∙◌, ◌+◌, ◌*◌, ◌++◌, ◌∷◌, [], ap, sym, pos, to_z}
use Rattle.std.specs.Int.{w128}
use Rattle.fd_pattern.specs.Views.{kind_in}
use Rattle.fd_equations.specs.Weights.{weight_by}
use Rattle.fd_equations.proofs.Lists.{list_of-more}
use Rattle.fd_equations.proofs.Networks.{weight_range}
use Rattle.fd_equations.proofs.Sizes.{natural_kept}
use Rattle.fd_equations.proofs.weights.weights.Goals as goal

pub loop-place-preserved : goal.loop-place-preserved
loop-place-preserved c =
    let kind = kind_in (2 * c.args.layout.now.nodes) (2 * (c.args.layout.now.nodes + c.args.layout.now.branches)) c.loop-place.place in
    let w : c.weight.result ≡ weight_by kind c.args.draw c.args.x.now c.loop-place.place =
    c.weight.ensures ∙ ap (λ k. weight_by k c.args.draw c.args.x.now c.loop-place.place) c.kind.ensures in
    let r = weight_range kind c.args.draw c.args.x.now c.loop-place.place c.requires.draw c.requires.parts in
    let value = ap (to_z w128) w ∙ natural_kept (weight_by kind c.args.draw c.args.x.now c.loop-place.place) r.1 in
    c.in_ok-push.ensures.items
    ∙ (λ i. c.loop-place.invariant i ++ value i ∷ [])
    ∙ sym (list_of-more c.loop-place.place (λ place.
    pos (weight_by (kind_in (2 * c.args.layout.now.nodes) (2 * (c.args.layout.now.nodes + c.args.layout.now.branches))
    place) c.args.draw c.args.x.now place)))
