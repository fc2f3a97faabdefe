use Rattle.std.proofs.Common.{◌∙◌, ap, sym, set, FitsSigned, rules}
use Rattle.std.specs.Int.{w128}
use Rattle.std.proofs.lemmas.Int.{to_z-of_z}
use Rattle.fd_inject.proofs.Iterates.{nominal_at, nominal_none}
use Rattle.fd_inject.proofs.procedure.set_magnitude.Goals as goal

pub returns-in-Some : goal.returns-in-Some
returns-in-Some c =
    let f : FitsSigned w128 c.args.load.now.load.vn = search rules in
    c.put.ensures
    ∙ ap (set c.args.x.now c.in-Some.place) (to_z-of_z w128 c.args.load.now.load.vn f)
    ∙ sym (nominal_at c.args.x.now c.args.load.now c.in-Some.place c.in-Some.is)

pub returns-in-None : goal.returns-in-None
returns-in-None c = sym (nominal_none c.args.x.now c.args.load.now c.in-None.is)
