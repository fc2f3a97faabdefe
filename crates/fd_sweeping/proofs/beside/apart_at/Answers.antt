use Rattle.std.proofs.Common.{◌≡◌, ◌-ℤ◌, nat_abs, FitsSigned, rules}
use Rattle.std.specs.Int.{w128}
use Rattle.std.proofs.lemmas.Int.{to_z-of_z}
use Rattle.fd_solving.specs.fd_exact.States.{part}
use Rattle.fd_sweeping.proofs.beside.apart_at.Goals as goal

pub returns : goal.returns
returns c =
    let f : FitsSigned w128 (part c.args.x.now c.args.place) = search rules in
    let g : FitsSigned w128 (part c.args.y.now c.args.place) = search rules in
    simp to_z-of_z at c.abs_diff.ensures
