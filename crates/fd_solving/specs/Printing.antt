-- What an hour of a Solve comes to for the loop over its hours: its settle, and what of it was printed.
use Rattle.std.specs.Prelude.{◌≡◌, ◌⊎◌, ◌||◌, ℕ, Bool, true, List, [], ◌∷◌, ◌++◌, Option, Some, None}
use Rattle.dss_commands.specs.dss_circuit.Circuit.{CircuitView}
use Rattle.fd_pages.specs.fd_report.declared.faults.Fault.{Fault}
use Rattle.fd_pages.specs.fd_outcome.Behind.{behind, has_text}
use Rattle.fd_pages.specs.fd_outcome.Calls.{Call, Style, body, fault_text, writes}
use Rattle.fd_pages.specs.fd_outcome.Events.{settle}
use Rattle.fd_pages.specs.fd_outcome.Parts.{IsCutIn, Printed, Wrote}
use Rattle.fd_pages.specs.fd_outcome.Settles.{Settle, SettleEnd, settled, failed, without_certificate}
use Rattle.fd_pages.specs.fd_outcome.Way.{whole}
use Rattle.fd_pages.specs.Hours.{Kept}
use Rattle.fd_solving.specs.Tallies.{tallied}
use Rattle.fd_solving.specs.Solving.{IsHour}
use Rattle.fd_solving.specs.declared.tally.Tally.{Tally}

-- the calls of a settle, where a text was written before or not
abbrev pub settle_calls : Style → Bool → Settle → List Call
settle_calls style begun x = behind style begun (settle x ∷ [])

-- whether a text was written, behind a settle
abbrev pub begun_behind : Style → Bool → Settle → Bool
begun_behind style begun x = begun || has_text (body style (settle x ∷ []))

-- the fault in which a settle ended
abbrev pub fault_of : SettleEnd → Option Fault
fault_of settled = None
fault_of (failed f) = Some f
fault_of (without_certificate r f) = Some f

module _ {S : Type 0} (style : Style) (taken : S → List ℕ) (calls : S → ℕ) (old new : S) (begun : Bool)
    (c : CircuitView) (hour : ℕ) (l : Kept) where
  -- the hour ended well, all of it is printed, and its rounds are added to those before
  pub record IsPrintedHour (k : Kept) (now : Bool) (before after : Tally) : Type 0 where
    pub made : Settle
    pub is : IsHour c hour l made k
    pub well : made.end ≡ settled
    pub wrote : Wrote taken calls old new (whole (settle_calls style begun made))
    pub begun_is : now ≡ begun_behind style begun made
    pub added : after ≡ tallied before (settle made)

  -- the hour ended well, and a front of it is printed
  pub record IsCutHour (code : ℕ) : Type 0 where
    pub made : Settle
    pub kept : Kept
    pub is : IsHour c hour l made kept
    pub well : made.end ≡ settled
    pub cut : IsCutIn taken calls old new (settle_calls style begun made) code

  -- the hour ended with a fault, which is printed behind it
  pub record IsFailedHour (code : ℕ) : Type 0 where
    pub made : Settle
    pub kept : Kept
    pub is : IsHour c hour l made kept
    pub fault : Fault
    pub ill : fault_of made.end ≡ Some fault
    pub printed : Printed taken calls old new true
        (record { calls = settle_calls style begun made ++ writes (fault_text fault) ∷ []; end = Some fault }) code

  -- memory ran out before it was solved, and nothing is printed
  pub record IsShortHour (code : ℕ) : Type 0 where
    pub wrote : Wrote taken calls old new (whole [])
    pub code_is : code ≡ 1

  -- the run ends in the hour
  abbrev pub EndsInHour : ℕ → Type 0
  EndsInHour code = IsShortHour code ⊎ (IsCutHour code ⊎ IsFailedHour code)
