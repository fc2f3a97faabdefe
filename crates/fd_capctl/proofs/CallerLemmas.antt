-- Lemmas that the crates above use.
use Rattle.std.proofs.Common.{◌≢◌, Bool}
use Rattle.fd_queue.specs.Quantities.{Quantity}
use Rattle.fd_queue.specs.Decisions.{IsOfAll, IsEdge}
use Rattle.fd_queue.proofs.CallerLemmas.{decided_everywhere}
use Rattle.fd_capctl.specs.Bank.{Bank, bank_verdict, bank_edge}
use Rattle.fd_capctl.proofs.Banks.{bank_monotone}
use Rattle.fd_capctl.proofs.BankEdges.{bank_edges}

-- what a bank decides over an interval, it decides at every quantity between
pub bank_decided : (b : Bank) (closed : Bool) → IsOfAll (bank_verdict b closed)
bank_decided b closed = decided_everywhere (bank_verdict b closed) (bank_monotone b closed)

-- the edge of its undecided interval
pub bank_edged : (b : Bank) (closed : Bool) (low high : Quantity)
    → bank_verdict b closed low ≢ bank_verdict b closed high →
    IsEdge (bank_verdict b closed) low high (bank_edge b closed)
bank_edged b closed low high d = bank_edges b closed low high d
