use Rattle.std.proofs.Common.{◌≡◌, ◌+◌, ◌*◌, ◌++◌, ◌∷◌, [], length, ap, sym, ◌∙◌, arith}
use Rattle.std.proofs.lemmas.List.FromFn.{map-range_with_len_more}
use Rattle.fd_ladder.specs.dss_layout.Layout.{complex_count}
use Rattle.fd_levels.proofs.answer.magnitude_pairs.Goals as goal

pub loop-before-preserved : goal.loop-before-preserved
loop-before-preserved c =
    let nodes = ap length c.nodes.ensures in
    let branches = ap length c.branches.ensures in
    let place = 2 * (length c.nodes.result.now + length c.branches.result.now) + c.loop-before.before in
    let is : 2 * complex_count c.args.layout.now + c.loop-before.before ≡ place = omega (arith, nodes, branches) in
    c.in_ok-push.ensures.items
    ∙ ap (λ ps. ps ++ record { unknown = place; equation = place } ∷ []) c.loop-before.invariant
    ∙ sym (map-range_with_len_more (λ k. record { unknown = k; equation = k }) (2 * complex_count c.args.layout.now) c.loop-before.before place is)
