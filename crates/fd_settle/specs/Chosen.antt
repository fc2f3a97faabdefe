-- Which states may be chosen for the rounds of a settle.
use Rattle.std.specs.Prelude.{◌≡◌, List, [], ◌∷◌}
use Rattle.fd_sample.specs.fd_queue.Controls.{Positions}
use Rattle.fd_sample.specs.fd_queue.Decisions.{Decision}
use Rattle.fd_sample.specs.fd_queue.Machine.{Machine, Setup}
use Rattle.fd_settle.specs.Sampling.{Sampling, Decided}
use Rattle.fd_settle.specs.Settle.{Open, Settled, Limited, Undecidable, Outcome, Ends, Moves, outcome_of}

-- what is decided over a ball is decided so at every state that it holds, at these positions
abbrev pub AreOfHeld : {Y X : Type 0} → (Positions → Y → X → Type 0) → (Positions → Y → Sampling)
    → (Positions → X → Sampling) → Type 0
AreOfHeld {Y} {X} holds of_ball of_state =
    (at : Positions) (y : Y) (x : X) (ds : List Decision) → holds at y x → of_ball at y ≡ Decided ds
    → of_state at x ≡ Decided ds

-- P of what the next round starts with; after the last round nothing is chosen, and for an undecided one nothing is
abbrev pub GoesOn : {X : Type 0} → Outcome → List X → (Machine → Type 0) → Type 0
GoesOn (Moves acts m) xs P = P m
GoesOn (Ends (Undecidable k u) m) xs P = ⊥
GoesOn (Ends Open m) xs P = xs ≡ []
GoesOn (Ends Settled m) xs P = xs ≡ []
GoesOn (Ends Limited m) xs P = xs ≡ []

-- states for the first rounds of the settle over these balls, each held by the ball of its round
abbrev pub AreChosen : {Y X : Type 0} → Setup → (Positions → Y → X → Type 0) → (Positions → Y → Sampling) → Machine
    → List Y → List X → Type 0
AreChosen s holds of_ball m ys [] = Unit {0}
AreChosen s holds of_ball m [] (x ∷ xs) = ⊥
AreChosen s holds of_ball m (y ∷ ys) (x ∷ xs) = holds m.at y x × GoesOn (outcome_of s m (of_ball m.at y)) xs (λ n. AreChosen s holds of_ball n ys xs)
