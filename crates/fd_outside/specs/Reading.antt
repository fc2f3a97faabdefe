-- What a read of a real file comes to, by what the system answered.
use Rattle.std.specs.Prelude.{◌≡◌, ◌⊎◌, ◌-◌, ◌^◌, ◌<◌, ◌≤◌, ℕ, List, [], ◌∷◌, ◌++◌, length, Result, Ok, Err}
use Rattle.std.specs.declared.vec.Vec.{Vec}
use Rattle.std.specs.List.{flat_map}
use Rattle.fd_outside.specs.Answers.{Answer, answered}
use Rattle.fd_outside.specs.System.{Event, opened, not_opened, moved, troubled, no_room}
use Rattle.fd_outside.specs.declared.system.Trouble.{Trouble}
use Rattle.fd_outside.specs.declared.system.Trouble.TheVariants as trouble
use Rattle.fd_outside.specs.declared.library.Found.{Found}
use Rattle.fd_outside.specs.declared.library.Found.TheVariants as found
use Rattle.fd_outside.specs.declared.library.LibFault.{LibFault}
use Rattle.fd_outside.specs.declared.library.LibFault.TheVariants as fault

-- these events came behind the others, and are so
pub record Grows (before after : List Event) (IsSo : List Event → Type 0) : Type 0 where
  pub made : List Event
  pub are : after ≡ before ++ made
  pub is : IsSo made

-- ---- parts of a file or of a piece

-- bytes came or went, or the call was interrupted: there is a next call
abbrev pub IsTurn : Event → Type 0
IsTurn (opened name) = ⊥
IsTurn (not_opened name t) = ⊥
IsTurn (moved bs) = Unit {0}
IsTurn (troubled trouble.Interrupted) = Unit {0}
IsTurn (troubled trouble.Missing) = ⊥
IsTurn (troubled trouble.NoMemory) = ⊥
IsTurn (troubled trouble.Other) = ⊥
IsTurn no_room = ⊥

abbrev pub AreTurns : List Event → Type 0
AreTurns [] = Unit {0}
AreTurns (e ∷ es) = IsTurn e × AreTurns es

-- the bytes that one event moved
abbrev pub bytes_in : Event → List ℕ
bytes_in (opened name) = []
bytes_in (not_opened name t) = []
bytes_in (moved bs) = bs
bytes_in (troubled t) = []
bytes_in no_room = []

abbrev pub bytes_moved : List Event → List ℕ
bytes_moved [] = []
bytes_moved (e ∷ es) = bytes_in e ++ bytes_moved es

-- some turns, and then this event
pub record EndsWith (last : Event) (made : List Event) : Type 0 where
  pub turns : List Event
  pub are : made ≡ turns ++ last ∷ []
  pub going : AreTurns turns

-- the number of tries after which a call gives up
abbrev pub most_tries : ℕ
most_tries = 2 ^ 64 - 1

abbrev pub IsWornOut : List Event → Type 0
IsWornOut made = AreTurns made × (most_tries ≤ length made)

-- ---- files

abbrev pub max_bytes : ℕ
max_bytes = 2 ^ 40

-- want of memory is told by the system or by an allocation alone, and every other trouble is a failed read
abbrev pub IsFaultOf : Trouble → LibFault → Type 0
IsFaultOf trouble.Interrupted f = f ≡ fault.Failed
IsFaultOf trouble.Missing f = f ≡ fault.Failed
IsFaultOf trouble.NoMemory f = f ≡ fault.NoMemory
IsFaultOf trouble.Other f = f ≡ fault.Failed

-- all that the file gave, up to its end
pub record IsWhole (made : List Event) (bytes : List ℕ) : Type 0 where
  pub turns : List Event
  pub are : made ≡ turns ++ moved [] ∷ []
  pub going : AreTurns turns
  pub bytes_are : bytes ≡ bytes_moved turns
  pub small : length bytes ≤ max_bytes

-- a read met with trouble other than being interrupted
pub record IsBroken (made : List Event) (f : LibFault) : Type 0 where
  pub why : Trouble
  pub fatal : IsTurn (troubled why) → ⊥
  pub ends : EndsWith (troubled why) made
  pub fault_is : IsFaultOf why f

-- the file gave more than is read
abbrev pub IsTooLong : List Event → Type 0
IsTooLong made = AreTurns made × (max_bytes < length (bytes_moved made))

-- no bytes, and why
abbrev pub IsUnread : List Event → LibFault → Type 0
IsUnread made fault.NoMemory = IsBroken made fault.NoMemory ⊎ EndsWith no_room made
IsUnread made fault.Failed = IsBroken made fault.Failed ⊎ (IsTooLong made ⊎ IsWornOut made)

abbrev pub IsReading : {A : Type 0} → List Event → Result (Vec ℕ A) LibFault → Type 0
IsReading made (Ok bytes) = IsWhole made bytes.items
IsReading made (Err f) = IsUnread made f

-- a file of this name was opened, and then
pub record IsOpened (name : List ℕ) (made : List Event) (IsSo : List Event → Type 0) : Type 0 where
  pub rest : List Event
  pub are : made ≡ opened name ∷ rest
  pub is : IsSo rest

-- no file of this name was opened, for another cause than that there is none
pub record IsShut (name : List ℕ) (made : List Event) (f : LibFault) : Type 0 where
  pub why : Trouble
  pub are : made ≡ not_opened name why ∷ []
  pub there : why ≡ trouble.Missing → ⊥
  pub fault_is : IsFaultOf why f

-- what one read of a file of this name comes to
abbrev pub IsReadOf : List ℕ → List Event → Result Found LibFault → Type 0
IsReadOf name made (Ok (found.Bytes bytes)) = IsOpened name made (λ rest. IsWhole rest bytes.items)
IsReadOf name made (Ok found.Absent) = made ≡ not_opened name trouble.Missing ∷ []
IsReadOf name made (Err f) = IsShut name made f ⊎ IsOpened name made (λ rest. IsUnread rest f)

-- ---- a whole run

-- one read, and what the system answered to it
pub record SystemRead : Type 0 where
  pub name : List ℕ
  pub result : Result Found LibFault
  pub made : List Event
  pub is : IsReadOf name made result

-- read by read, what was answered is what the system answered, and the system was asked for nothing else
pub record AreReads (answers : List Answer) (events : List Event) : Type 0 where
  pub reads : List SystemRead
  pub answers_are : answers ≡ flat_map (λ r. answered r.name r.result) reads
  pub events_are : events ≡ flat_map (λ r. r.made) reads
