use Rattle.std.proofs.Common.{◌∙◌, ◌<◌, length, ap, subst, sym}
use Rattle.dss_ready.specs.dss_layout.Layout.{LayoutView}
use Rattle.fd_network.specs.Built.{BuiltView}
use Rattle.fd_network.proofs.ReadyElements.{branches_within}
use Rattle.fd_network.proofs.network.Network.ends_of.Goals as goal

pub ends-requires : goal.ends-requires
ends-requires c =
    let layout = ap (λ (v : BuiltView). v.layout) c.self.view_is ∙ c.requires.built.layout in
    subst (λ (l : LayoutView). c.args.element < length l.branches_before) (sym layout)
    (branches_within c.args.circuit.now.elements c.args.element c.requires.element)
