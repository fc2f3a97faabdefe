-- A bank that wants to move is not where it goes.
use Rattle.std.proofs.Common.{◌≡◌, Bool, true, false, cond, refl}
use Rattle.fd_queue.specs.Quantities.{Quantity}
use Rattle.fd_queue.specs.Decisions.{Raise, Hold, Lower}
use Rattle.fd_capctl.specs.Bank.{Bank, bank_verdict, past_on, past_off}
use Rattle.fd_capctl.specs.BankLaws.{MovesAway}

lower_away : (t : Bool) → MovesAway true (cond t (Lower 1) Hold)
lower_away true = record { away = λ up e. let u : false ≡ up = cc in cc; one_step = λ up e. refl }
lower_away false = record { away = λ up e. absurd (cc); one_step = λ up e. absurd (cc) }

raise_away : (t : Bool) → MovesAway false (cond t (Raise 1) Hold)
raise_away true = record { away = λ up e. let u : true ≡ up = cc in cc; one_step = λ up e. refl }
raise_away false = record { away = λ up e. absurd (cc); one_step = λ up e. absurd (cc) }

pub moves_away : (b : Bank) (closed : Bool) (q : Quantity) → MovesAway closed (bank_verdict b closed q)
moves_away b true q = lower_away (past_off b.kind b.off q)
moves_away b false q = raise_away (past_on b.kind b.on q)
