-- What a write to a real writer comes to, by what the system answered.
use Rattle.std.specs.Prelude.{◌≡◌, ◌⊎◌, ℕ, List, [], Result, Ok, Err}
use Rattle.fd_outside.specs.System.{Event, moved, troubled}
use Rattle.fd_outside.specs.Reading.{AreTurns, EndsWith, IsTurn, IsWornOut, bytes_moved}
use Rattle.fd_outside.specs.Pieces.{IsCut}
use Rattle.fd_outside.specs.declared.system.Trouble.{Trouble}
use Rattle.fd_outside.specs.declared.sink.SinkFault.{SinkFault}
use Rattle.fd_outside.specs.declared.sink.SinkFault.TheVariants as fault

-- all of the piece was taken
pub record IsTaken (piece : List ℕ) (made : List Event) : Type 0 where
  pub going : AreTurns made
  pub all : bytes_moved made ≡ piece

-- the last write took nothing of what was left, or met with trouble other than being interrupted
pub record IsStopped (made : List Event) : Type 0 where
  pub last : Event
  pub ends : EndsWith last made
  pub stops : (last ≡ moved []) ⊎ ((t : Trouble) × ((last ≡ troubled t) × (IsTurn (troubled t) → ⊥)))

-- less than all of the piece was taken, and why
pub record IsFailed (piece : List ℕ) (made : List Event) : Type 0 where
  pub cut : IsCut (bytes_moved made) piece
  pub cause : IsStopped made ⊎ IsWornOut made

abbrev pub IsWriting : List ℕ → List Event → Result Unit SinkFault → Type 0
IsWriting piece made (Ok _) = IsTaken piece made
IsWriting piece made (Err fault.Failed) = IsFailed piece made
IsWriting piece made (Err fault.NoMemory) = ⊥
