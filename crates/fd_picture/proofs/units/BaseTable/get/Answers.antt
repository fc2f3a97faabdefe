use Rattle.std.proofs.Common.{◌∙◌, ap}
use Rattle.fd_picture.specs.Bases.{HoldsLast, base_of}
use Rattle.fd_picture.proofs.units.BaseTable.get.Goals as goal

pub returns : goal.returns
unfolding HoldsLast
returns c = c.copied.ensures ∙ c.get.ensures.value ∙ c.self.invariant c.args.bus.now ∙ ap (λ all. base_of all c.args.bus.now) c.self.view_is
