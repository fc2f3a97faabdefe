-- The laws of banks.
use Rattle.std.specs.Prelude.{◌≡◌, ◌≢◌, Bool, not, Some}
use Rattle.fd_queue.specs.Quantities.{Quantity}
use Rattle.fd_queue.specs.Decisions.{Decision, GoesAlong, GoesAgainst, IsOfAll, IsEdge, way_of, steps_of}
use Rattle.fd_capctl.specs.Bank.{Bank, Kind, Voltage, Current, Kvar, bank_verdict, bank_edge}

-- from a low quantity to a high one a voltage bank goes along the line, the others against it
abbrev pub GoesBy : Kind → (Quantity → Decision) → Type 0
GoesBy Voltage f = GoesAlong f
GoesBy Current f = GoesAgainst f
GoesBy Kvar f = GoesAgainst f

abbrev pub BankLaw : Type 0
BankLaw = (b : Bank) (closed : Bool) → GoesBy b.kind (bank_verdict b closed)

-- so what is decided over an interval is so at every quantity that it holds
abbrev pub BankDecidedLaw : Type 0
BankDecidedLaw = (b : Bank) (closed : Bool) → IsOfAll (bank_verdict b closed)

abbrev pub BankEdgeLaw : Type 0
BankEdgeLaw = (b : Bank) (closed : Bool) (low high : Quantity) →
    bank_verdict b closed low ≢ bank_verdict b closed high → IsEdge (bank_verdict b closed) low high (bank_edge b closed)

-- a bank that wants to move is not where it goes: an open one never wants to open, nor a closed one to close.
-- It goes one step
pub record MovesAway (closed : Bool) (v : Decision) : Type 0 where
  pub away : (up : Bool) → way_of v ≡ Some up → closed ≡ not up
  pub one_step : (up : Bool) → way_of v ≡ Some up → steps_of v ≡ 1

abbrev pub AwayLaw : Type 0
AwayLaw = (b : Bank) (closed : Bool) (q : Quantity) → MovesAway closed (bank_verdict b closed q)
