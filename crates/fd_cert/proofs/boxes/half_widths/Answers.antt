use Rattle.std.proofs.Common.{◌≡◌, ◌∙◌, ◌++◌, ◌∷◌, [], nat_abs, sym, FitsSigned, rules}
use Rattle.std.specs.Int.{w128}
use Rattle.std.proofs.lemmas.Int.{to_z-of_z}
use Rattle.fd_enclosure.specs.fd_exact.States.{part}
use Rattle.fd_enclosure.specs.fd_pattern.Views.{kind_of}
use Rattle.fd_enclosure.proofs.CallerLemmas.fd_equations.{list_of-more}
use Rattle.fd_enclosure.specs.Boxes.{part_width_by}
use Rattle.fd_cert.proofs.boxes.half_widths.Goals as goal

pub loop-place-preserved : goal.loop-place-preserved
loop-place-preserved c =
    let f : FitsSigned w128 (part c.args.weights.now c.loop-place.place) = search rules in
    let w : c.unsigned_abs-weight.result ≡ nat_abs (part c.args.weights.now c.loop-place.place) = simp to_z-of_z at c.unsigned_abs-weight.ensures.value in
    c.in_ok-push.ensures.items ∙ (λ i. c.loop-place.invariant i ++ (c.half_width.ensures ∙ (λ k. part_width_by c.args.parts (c.kind.ensures k) (w k))) i ∷ [])
    ∙ sym (list_of-more c.loop-place.place (λ i. part_width_by c.args.parts (kind_of c.args.net.now i) (nat_abs (part c.args.weights.now i))))
