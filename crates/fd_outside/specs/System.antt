-- What the system answered.
use Rattle.std.specs.Prelude.{◌≡◌, ℕ, zero, suc, List, [], ◌∷◌, ◌++◌, take, Result, Ok, Err, slice_index}
use Rattle.fd_outside.specs.Troubles.{trouble_at}
use Rattle.fd_outside.specs.declared.system.Trouble.{Trouble}
use Rattle.fd_outside.specs.declared.system.Trouble.TheVariants as trouble

pub data Event : Type 0 where
  -- the file of this name was opened, or not
  opened : List ℕ → Event
  not_opened : List ℕ → Trouble → Event
  -- a read gave these bytes, or a write took them; none is the end of a file, or a write that takes nothing
  moved : List ℕ → Event
  -- a read or a write met with trouble
  troubled : Trouble → Event
  -- an allocation was refused
  no_room : Event

abbrev pub opening : {F : Type 0} → List ℕ → Result F Trouble → Event
opening name (Ok file) = opened name
opening name (Err t) = not_opened name t

abbrev pub turn_of : Result ℕ Trouble → List ℕ → Event
turn_of (Ok count) bytes = moved (take count bytes)
turn_of (Err t) bytes = troubled t

-- bytes are put behind others, or an allocation is refused
abbrev pub Stores : List ℕ → List ℕ → List ℕ → List Event → List Event → Result Unit Trouble → Type 0
Stores old new more before after (Ok x) = (new ≡ old ++ more) × (after ≡ before)
Stores old new more before after (Err t) = (t ≡ trouble.NoMemory) × (after ≡ before ++ no_room ∷ [])

-- ---- how a tape has it

abbrev pub event_on : List ℕ → List ℕ → List ℕ → Event
event_on [] name bytes = no_room
event_on (zero ∷ rest) name bytes = opened name
event_on (suc zero ∷ rest) name bytes = not_opened name (trouble_at (slice_index rest 0))
event_on (suc (suc zero) ∷ rest) name bytes = moved bytes
event_on (suc (suc (suc zero)) ∷ rest) name bytes = troubled (trouble_at (slice_index rest 0))
event_on (suc (suc (suc (suc n))) ∷ rest) name bytes = no_room
