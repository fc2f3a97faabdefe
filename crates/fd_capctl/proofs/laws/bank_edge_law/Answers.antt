use Rattle.fd_capctl.proofs.BankEdges.{bank_edges}
use Rattle.fd_capctl.proofs.laws.bank_edge_law.Goals as goal

pub returns : goal.returns
returns c = bank_edges
