use Rattle.std.proofs.Common.{ap, sym, ◌∙◌, filter}
use Rattle.std.proofs.lemmas.Result.{IfOk-weaker}
use Rattle.dss_layout.specs.declared.terminals.Terminals.{Terminals}
use Rattle.dss_layout.specs.Nodes.{is_node}
use Rattle.fd_ladder.proofs.Placing.{first_source}
use Rattle.fd_ladder.proofs.section.source_nodes.Goals as goal

pub returns-in_ok-ends-in-Some : goal.returns-in_ok-ends-in-Some
returns-in_ok-ends-in-Some c =
    IfOk-weaker c.without_ground.result _ _
    (λ nodes h.
    h
    ∙ ap (λ (t : Terminals). filter is_node t.first) c.in_ok-ends-in-Some.ensures
    ∙ first_source c.args.elements.now.entries _ (sym c.in-Some.ensures.entry))
    c.without_ground.ensures
