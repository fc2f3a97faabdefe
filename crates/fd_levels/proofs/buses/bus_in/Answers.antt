use Rattle.std.proofs.Common.{◌∙◌, sym}
use Rattle.fd_ladder.specs.dss_layout.dss_lexer.Texts.{text_eq}
use Rattle.fd_levels.proofs.Placing.{bus_of_first, no_position}
use Rattle.fd_levels.proofs.buses.bus_in.Goals as goal

pub returns-in-None : goal.returns-in-None
returns-in-None c =
    let buses = c.args.buses.now.keys in
    let node = c.in-Some.node.now in
    c.len-in-None.ensures.len
    ∙ sym (no_position (text_eq node.bus) buses (sym c.in-None.ensures.index))
    ∙ bus_of_first buses c.args.nodes.now node (sym c.in-Some.ensures.value)
