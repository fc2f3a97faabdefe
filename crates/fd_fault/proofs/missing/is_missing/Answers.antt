use Rattle.dss_ready.specs.dss_layout.Nodes.{same_node}
use Rattle.fd_fault.proofs.Standing.{no_place}
use Rattle.fd_fault.proofs.missing.is_missing.Goals as goal

pub returns : goal.returns
returns c = cc (no_place (same_node c.args.name.now) c.args.layout.now.nodes)
