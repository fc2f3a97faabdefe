use Rattle.std.proofs.Common.{ℕ, ◌==◌, ◌<◌, ◌++◌, length, ap, sym, ◌∙◌, set, get_or, map, take, drop, if◌then◌else◌, add-one, arith}
use Rattle.dss_ready.proofs.Joining.{set-mapped, get_or-mapped}
use Rattle.dss_ready.proofs.feeding.join.Goals as goal

pub loop-label-preserved : goal.loop-label-preserved
loop-label-preserved c =
    let xs = c.args.labels.now in
    let f : ℕ → ℕ = λ x. if x == get_or xs c.args.second 0 then get_or xs c.args.first 0 else x in
    let i = c.loop-label.label-index in
    let within : i < length xs = omega arith in
    ap (set c.loop-label.labels i) c.relabelled.ensures
    ∙ (λ j. set (c.loop-label.invariant j) i (f (get_or (c.loop-label.invariant j) i 0)))
    ∙ ap (λ x. set (map f (take i xs) ++ drop i xs) i (f x)) (get_or-mapped f xs i 0)
    ∙ set-mapped f xs i within
    ∙ ap (λ k. map f (take k xs) ++ drop k xs) (sym (add-one i))
