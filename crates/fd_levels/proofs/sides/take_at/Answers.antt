use Rattle.std.proofs.Common.{◌∙◌, ap, slice_get}
use Rattle.std.proofs.lemmas.Result.{on_ok_weaker}
use Rattle.fd_levels.specs.Feeds.{with_nodes}
use Rattle.fd_levels.proofs.sides.take_at.Goals as goal

pub returns-in-Some-clause-reached : goal.returns-in-Some-clause-reached
returns-in-Some-clause-reached c =
    let here = c.in-Some.ensures.entry ∙ ap (λ es. slice_get es c.args.place) c.as_slice.ensures.entries in
    on_ok_weaker c.take.result (λ d. d ∙ ap (with_nodes c.args.reached.now.keys) here) c.take.ensures.reached
