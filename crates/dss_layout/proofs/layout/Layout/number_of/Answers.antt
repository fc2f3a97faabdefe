use Rattle.std.proofs.Common.{ap, sym, ◌∙◌}
use Rattle.dss_layout.specs.declared.layout.Layout.TheInside.{Inside}
use Rattle.dss_layout.specs.Layout.{LayoutView}
use Rattle.dss_layout.specs.Nodes.{number_in}
use Rattle.dss_layout.proofs.Placing.{position_or_len-absent}
use Rattle.dss_layout.proofs.layout.Layout.number_of.Goals as goal

pub returns-in-None-clause-number : goal.returns-in-None-clause-number
returns-in-None-clause-number c =
    c.len.ensures.len
    ∙ sym (position_or_len-absent _ _ (sym c.in-None.ensures.index))
    ∙ ap (λ (i : Inside). number_in i.unknowns.nodes c.args.name.now) c.self-inside.view_is
    ∙ ap (λ (v : LayoutView). number_in v.nodes c.args.name.now) c.self.view_is
