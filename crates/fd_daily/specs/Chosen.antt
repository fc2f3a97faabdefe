-- Which states may be chosen for the rounds of a run.
use Rattle.std.specs.Prelude.{◌≡◌, List, [], ◌∷◌, length, take, IsTrue}
use Rattle.fd_settle.specs.fd_queue.Controls.{Positions}
use Rattle.fd_settle.specs.fd_queue.Machine.{Machine, Act}
use Rattle.fd_settle.specs.Sampling.{Sampling}
use Rattle.fd_settle.specs.Settle.{Settle, settle_of}
use Rattle.fd_settle.specs.Chosen.{AreChosen}
use Rattle.fd_daily.specs.Run.{Hour, is_settled}

-- P, unless nothing follows
abbrev pub Onward : {X : Type 0} → List X → Type 0 → Type 0
Onward [] P = Unit {0}
Onward (x ∷ xs) P = P

-- a state for each round of an hour that ended well, and P of what it left
pub record IsWhole {Y X : Type 0} (ys : List Y) (xs : List X) (s : Settle) (P : Machine → Type 0) : Type 0 where
  pub each : length xs ≡ length ys
  pub well : IsTrue (is_settled s.end)
  pub rest : P s.machine

-- states for the first rounds of a run over these balls, each held by the ball of its round
abbrev pub AreChosenRun : {C Y X : Type 0} → (C → Positions → Y → X → Type 0) → (C → Positions → Y → Sampling)
    → List (Hour C) → Machine → List (List Y) → List (List X) → Type 0
AreChosenRun holds of_ball hs m yss [] = Unit {0}
AreChosenRun holds of_ball [] m yss (xs ∷ xss) = ⊥
AreChosenRun holds of_ball (h ∷ hs) m [] (xs ∷ xss) = ⊥
AreChosenRun holds of_ball (h ∷ hs) m (ys ∷ yss) (xs ∷ xss) =
    AreChosen h.setup (holds h.circuit) (of_ball h.circuit) (h.start m) ys xs
    × Onward xss (IsWhole ys xs (settle_of h.setup (of_ball h.circuit) (h.start m) ys) (λ n. AreChosenRun holds of_ball hs n yss xss))

-- the acts of the rounds for which states were chosen
abbrev pub first_rounds : {X : Type 0} → List (List X) → List (List (List Act)) → List (List (List Act))
first_rounds [] rounds = []
first_rounds (xs ∷ xss) [] = []
first_rounds (xs ∷ xss) (acts ∷ rounds) = take (length xs) acts ∷ first_rounds xss rounds
