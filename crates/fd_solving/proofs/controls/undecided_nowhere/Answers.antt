use Rattle.std.proofs.Common.{◌≡◌, ◌∙◌, [], ap, refl}
use Rattle.std.specs.Int.{w128}
use Rattle.std.specs.Str.{chars}
use Rattle.std.proofs.lemmas.Int.{to_z-of_z}
use Rattle.std.proofs.lemmas.Str.{chars-nil}
use Rattle.fd_solving.proofs.controls.undecided_nowhere.Goals as goal

pub returns-clause-fault : goal.returns-clause-fault
returns-clause-fault c =
    let name : c.new-2.result ≡ [] = c.new-2.ensures ∙ ap chars c.new.ensures.bytes ∙ chars-nil in
    rw (
      name,
      to_z-of_z w128 c.args.low c.ranges.low,
      to_z-of_z w128 c.args.high c.ranges.high,
      to_z-of_z w128
          c.args.edge c.ranges.edge,
    ) refl
