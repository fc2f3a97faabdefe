use Rattle.std.specs.Int.{w128}
use Rattle.std.proofs.lemmas.Int.{to_z-of_z}
use Rattle.fd_system.proofs.CallerLemmas.{negated}
use Rattle.fd_xfmr.proofs.Lists.{size_fits, opposite_fits, over_fits, branch_added}
use Rattle.fd_xfmr.proofs.terms.add_branch.Goals as goal

pub returns-clause-items : goal.returns-clause-items
returns-clause-items c =
    let n = c.args.numbers.now in
    let w = c.requires.numbers in
    let minus = negated n.ratio (size_fits n.ratio w.ratio) (opposite_fits n.ratio w.ratio) in
    let r = negated n.r (size_fits n.r w.r) (opposite_fits n.r w.r) in
    let x = negated n.x (size_fits n.x w.x) (opposite_fits n.x w.x) in
    branch_added n c.args.phase.now _ _ _ (to_z-of_z w128 n.ratio (size_fits n.ratio w.ratio)) minus
    (to_z-of_z w128 n.ratio_over (over_fits n w)) _ _ _ _ _ _ _ _ c.add_real.ensures.items c.add_real-2.ensures.items
    c.add_real-3.ensures.items c.add_real-4.ensures.items c.add_complex.ensures.items r x
