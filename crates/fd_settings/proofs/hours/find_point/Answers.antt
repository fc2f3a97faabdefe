use Rattle.std.proofs.Common.{◌∙◌, arith, rules, FitsSigned}
use Rattle.std.specs.Int.{w128}
use Rattle.std.proofs.lemmas.Int.{to_z-of_z}
use Rattle.fd_settings.proofs.Daily.{later_point}
use Rattle.fd_settings.proofs.hours.find_point.Goals as goal

pub returns-clause-value : goal.returns-clause-value
returns-clause-value c =
    let fits : FitsSigned w128 c.followed_point.result = search rules in
    to_z-of_z w128 c.followed_point.result fits
    ∙ later_point c.args.circuit.now.elements c.args.load.now c.args.hour _ c.followed_point.result
    (omega (arith, c.if-hour-eq0.false)) (c.shape_at.ensures.found ∙ c.requires.shape) c.followed_point.ensures.value
