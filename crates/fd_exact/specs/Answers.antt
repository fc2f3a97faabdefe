-- What a call answers, and what a definition says. F are the faults that a definition says, and E the errors that a
-- call answers: a fault, or want of memory, of which `fault_of` makes None.
use Rattle.std.specs.Prelude.{◌≡◌, List, [], ◌∷◌, Option, Some, None, Result, Ok, Err}
use Rattle.fd_exact.specs.Results.{◌>>=◌}

-- there is one, or this is the fault
abbrev pub or_fault : {A F : Type 0} → F → Option A → Result A F
or_fault fault None = Err fault
or_fault fault (Some x) = Ok x

-- what f makes of each element, or the first fault
abbrev pub each : {A B F : Type 0} → (A → Result B F) → List A → Result (List B) F
each f [] = Ok []
each f (x ∷ xs) = f x >>= λ y. each f xs >>= λ ys. Ok (y ∷ ys)

-- a fault is the one that is said; want of memory is free
abbrev pub IsTold : {Y F : Type 0} → Option F → Result Y F → Type 0
IsTold None said = Unit {0}
IsTold (Some fault) said = said ≡ Err fault

module _ {E F : Type 0} (fault_of : E → Option F) where
  -- an error's fault is the one that is said
  abbrev pub Fails : {Y : Type 0} → E → Result Y F → Type 0
  Fails e said = IsTold (fault_of e) said

  -- an answer, seen by view, is what is said
  abbrev pub Gives : {X Y : Type 0} → (X → Y) → Result X E → Result Y F → Type 0
  Gives view (Ok x) said = said ≡ Ok (view x)
  Gives view (Err e) said = Fails e said

  -- a value has become what is said
  abbrev pub Makes : {X : Type 0} → X → Result Unit E → Result X F → Type 0
  Makes new (Ok done) said = said ≡ Ok new
  Makes new (Err e) said = Fails e said

  -- a value has become what is said, and after an error is as before
  abbrev pub Becomes : {X : Type 0} → X → X → Result Unit E → Result X F → Type 0
  Becomes old new (Ok done) said = said ≡ Ok new
  Becomes old new (Err e) said = Fails e said × (new ≡ old)
