use Rattle.std.proofs.Common.{◌≡◌, ◌∙◌, ◌++◌, ◌∷◌, [], nat_abs, ap, sym, FitsSigned, rules}
use Rattle.std.specs.Int.{w128}
use Rattle.std.proofs.lemmas.Int.{to_z-of_z}
use Rattle.fd_enclosure.specs.fd_exact.States.{part}
use Rattle.fd_enclosure.proofs.CallerLemmas.fd_equations.{list_of-more}
use Rattle.fd_cert.specs.Reaches.{radius_of}
use Rattle.fd_cert.proofs.reach.radii.Goals as goal

pub loop-weight-preserved : goal.loop-weight-preserved
loop-weight-preserved c =
    let k = c.loop-weight.weight-index in
    let f : FitsSigned w128 (part c.args.weights.now k) = search rules in
    let w : c.unsigned_abs.result ≡ nat_abs (part c.args.weights.now k) = simp to_z-of_z at c.unsigned_abs.ensures.value in
    c.in_ok-push.ensures.items ∙ (λ i. c.loop-weight.invariant i ++ (c.ceil_over.ensures ∙ ap (λ n. radius_of n c.args.reach c.args.bound) w) i ∷ [])
    ∙ sym (list_of-more k (λ i. radius_of (nat_abs (part c.args.weights.now i)) c.args.reach c.args.bound))
