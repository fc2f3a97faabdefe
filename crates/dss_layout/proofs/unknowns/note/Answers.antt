use Rattle.std.proofs.Common.{◌++◌, filter, ap}
use Rattle.dss_layout.specs.declared.terminals.Terminals.{Terminals}
use Rattle.dss_layout.specs.Nodes.{new_nodes, is_node}
use Rattle.dss_layout.proofs.Adding.{noted_filtered}
use Rattle.dss_layout.proofs.unknowns.note.Goals as goal

pub returns : goal.returns
returns c =
    let before = c.args.nodes.now.keys in
    let here = c.in_ok-terminals.terminals in
    let both = ap (λ (t : Terminals). before ++ new_nodes before (filter is_node (t.first ++ t.second))) c.in_ok-terminals.ensures in
    let all = noted_filtered before here.first here.second in
    cc (both, all, c.in_ok-note_names.ensures, c.in_ok-note_names-2.ensures)
