use Rattle.std.proofs.Common.{◌≡◌, ◌∙◌, length, rules, sym}
use Rattle.fd_picture.proofs.ReadSteps.{unfit_end}
use Rattle.fd_picture.proofs.lines.unfit_in.Goals as goal

pub returns-then-is_empty : goal.returns-then-is_empty
returns-then-is_empty c =
    let none : length c.loop-number.rest.now ≡ 0 = search rules in
    sym (c.loop-number.invariant ∙ unfit_end c.loop-number.number c.loop-number.rest.now none)
