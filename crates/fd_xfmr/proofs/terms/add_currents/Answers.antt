use Rattle.std.specs.Int.{w128}
use Rattle.std.proofs.lemmas.Int.{to_z-of_z}
use Rattle.fd_system.proofs.CallerLemmas.{negated}
use Rattle.fd_xfmr.proofs.Lists.{size_fits, opposite_fits, over_fits, currents_added}
use Rattle.fd_xfmr.proofs.terms.add_currents.Goals as goal

pub returns-clause-items : goal.returns-clause-items
returns-clause-items c =
    let n = c.args.numbers.now in
    let w = c.requires.numbers in
    let minus = negated n.ratio (size_fits n.ratio w.ratio) (opposite_fits n.ratio w.ratio) in
    currents_added n c.args.phase.now _ _ _ (to_z-of_z w128 n.ratio (size_fits n.ratio w.ratio)) minus (to_z-of_z w128 n.ratio_over (over_fits n w)) _ _ _ _ _
    c.add_real.ensures.items c.add_real-2.ensures.items c.add_real-3.ensures.items c.add_real-4.ensures.items
