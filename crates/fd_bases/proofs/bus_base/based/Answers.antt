use Rattle.std.proofs.Common.{◌∙◌, FitsSigned, rules}
use Rattle.std.proofs.lemmas.Int.{to_z-of_z}
use Rattle.std.specs.Int.{w128}
use Rattle.fd_bases.proofs.Basing.{based_more}
use Rattle.fd_bases.proofs.bus_base.based.Goals as goal

pub loop-bus-preserved : goal.loop-bus-preserved
loop-bus-preserved c =
    let r = c.nearest.result in
    let fits : FitsSigned w128 r = search rules in
    based_more _ _ c.loop-bus.bases.items c.push.new.self.items c.loop-bus.bus-iterator c.next.new.self _
    c.in-Some.bus c.in-Some.nominal _ c.in-Some.ensures.steps c.in_ok-push.ensures.items
    (to_z-of_z w128 r fits ∙ c.nearest.ensures) c.loop-bus.invariant
