use Rattle.std.proofs.Common.{◌≡◌, ◌∙◌, None, rules}
use Rattle.fd_picture.specs.Scales.{step_in}
use Rattle.fd_picture.proofs.Steps.{search_begins, search_goes_on}
use Rattle.fd_picture.proofs.scale.step_for.Goals as goal

pub loop-decade-init : goal.loop-decade-init
loop-decade-init c = search_begins c.args.range

pub loop-decade-preserved : goal.loop-decade-preserved
loop-decade-preserved c =
    let none : step_in c.loop-decade.decade c.args.range ≡ None = search rules in
    c.loop-decade.invariant ∙ search_goes_on c.loop-decade.decade c.args.range c.loop-decade-test.true none
