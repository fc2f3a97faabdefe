use Rattle.fd_regctl.proofs.Edges.{regulator_edges}
use Rattle.fd_regctl.proofs.laws.regulator_edge_law.Goals as goal

pub returns : goal.returns
returns c = regulator_edges
