-- Events behind others.
use Rattle.std.specs.Prelude.{◌≡◌, ℕ, Bool, true, false, List, [], ◌∷◌, ◌++◌, map, Option, Some, None}
use Rattle.fd_report.specs.declared.faults.Fault.{Fault}
use Rattle.fd_outcome.specs.Events.{Event, History, asked}
use Rattle.fd_outcome.specs.Calls.{Call, reads, writes, Style, opened, body, so_far, fault_text}

abbrev pub has_text : List Call → Bool
has_text [] = false
has_text (reads name ∷ calls) = has_text calls
has_text (writes text ∷ calls) = true

-- what events come to behind others: what opens the texts isn't written again
abbrev pub behind : Style → Bool → List Event → List Call
behind style true events = body style events
behind style false events = so_far style events

-- what opens the texts, unless it stands already
abbrev pub opened_unless : Bool → List (List ℕ) → List Call → List Call
opened_unless true first calls = calls
opened_unless false first calls = opened first calls

-- the calls of the last events behind others, with what closes the texts or the fault
abbrev pub last_calls : Style → Bool → List Event → Option Fault → List Call
last_calls style begun events None = opened_unless begun style.opening (body style events ++ map writes style.closing)
last_calls style begun events (Some f) = behind style begun events ++ writes (fault_text f) ∷ []

-- the style asks for the names of its events, and writes nothing for them
pub record AsksNames (style : Style) : Type 0 where
  pub asks : (name : List ℕ) → style.asked_in (asked name) ≡ name ∷ []
  pub silent : (name : List ℕ) → style.texts_in (asked name) ≡ []

-- whether what closes the texts tells an end without a fault
abbrev pub closes : List (List ℕ) → Bool
closes [] = false
closes (text ∷ texts) = true

-- what is done behind the last command, where it ends without a fault, has a text or closes the texts
abbrev pub TellsEnd : {T : Type 0} → Bool → Style → (T → Option (List ℕ) → History → Type 0) → Type 0
TellsEnd {T} tells style is_last =
    (s : T) (found : Option (List ℕ)) (h : History) → tells ≡ true → is_last s found h → h.end ≡ None
    → body style h.events ++ map writes style.closing ≡ [] → ⊥
