use Rattle.std.proofs.Common.{◌∙◌, ap, sym}
use Rattle.std.proofs.lemmas.Result.{on_ok_weaker}
use Rattle.fd_ladder.specs.Radial.{reach_all}
use Rattle.fd_levels.proofs.Placing.{first_source}
use Rattle.fd_levels.proofs.sides.reach_source.Goals as goal

pub returns-in_ok-sides-in-Some : goal.returns-in_ok-sides-in-Some
returns-in_ok-sides-in-Some c =
    let nodes = c.as_slice.ensures
    ∙ c.in_ok-sides-in-Some.ensures.first
    ∙ first_source c.args.elements.now.entries _ (sym c.in-Some.ensures.entry) in
    on_ok_weaker c.reach_all.result (λ d. d ∙ ap (reach_all c.args.reached.now.keys) nodes) c.reach_all.ensures
