-- A settle: solve, sample and act, and again, as a fold of the queue machine over what the solves give.
use Rattle.std.specs.Prelude.{ℕ, List, [], ◌∷◌}
use Rattle.fd_sample.specs.fd_queue.Controls.{Positions}
use Rattle.fd_sample.specs.fd_queue.Machine.{Machine, Setup, Act, Step, Quiet, AtLimit, Acts, step_of}
use Rattle.fd_sample.specs.Decided.{Undecided}
use Rattle.fd_settle.specs.Sampling.{Sampling, Decided, Unclear}

-- why a settle ends: no entry is due; one is after as many acts as are allowed; a control's sample is undecided. It is
-- open where the solves run out
pub data End : Type 0 where
  Open : End
  Settled : End
  Limited : End
  Undecidable : ℕ → Undecided → End

-- what a round comes to: the end, or the acts before the next solve
pub data Outcome : Type 0 where
  Ends : End → Machine → Outcome
  Moves : List Act → Machine → Outcome

abbrev pub outcome_after : Step → Outcome
outcome_after (Quiet m) = Ends Settled m
outcome_after (AtLimit m) = Ends Limited m
outcome_after (Acts m acts) = Moves acts m

abbrev pub outcome_of : Setup → Machine → Sampling → Outcome
outcome_of s m (Decided ds) = outcome_after (step_of s ds m)
outcome_of s m (Unclear k u) = Ends (Undecidable k u) m

-- the acts of each round in order, the end, and what the acts leave
pub record Settle : Type 0 where
  pub rounds : List (List Act)
  pub end : End
  pub machine : Machine

abbrev pub before_rest : Outcome → (Machine → Settle) → Settle
before_rest (Ends end m) rest = record { rounds = [] ∷ []; end = end; machine = m }
before_rest (Moves acts m) rest = let after = rest m in record after { rounds = acts ∷ after.rounds }

-- over a list with one item for each solve: a state, or a certified state with its ball. What is sampled depends on the
-- positions that the acts before left
abbrev pub settle_of : {X : Type 0} → Setup → (Positions → X → Sampling) → Machine → List X → Settle
settle_of s look m [] = record { rounds = []; end = Open; machine = m }
settle_of s look m (x ∷ xs) = before_rest (outcome_of s m (look m.at x)) (λ n. settle_of s look n xs)
