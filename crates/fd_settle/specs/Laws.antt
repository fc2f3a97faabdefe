-- The laws of settles: the acts follow from the decisions alone, and nothing is due where a settle ends well.
use Rattle.std.specs.Prelude.{◌≡◌, Bool, false, List, [], ◌∷◌, length, take}
use Rattle.std.specs.List.{AllByRecursion}
use Rattle.fd_sample.specs.fd_queue.Controls.{Positions}
use Rattle.fd_sample.specs.fd_queue.Machine.{Machine, Setup}
use Rattle.fd_settle.specs.Sampling.{Sampling}
use Rattle.fd_settle.specs.Settle.{Outcome, Ends, Moves, Settled, outcome_of, settle_of}
use Rattle.fd_settle.specs.Chosen.{AreOfHeld, AreChosen}

-- ---- two lists whose decisions agree, solve by solve

abbrev pub ThenAgree : Outcome → (Machine → Type 0) → Type 0
ThenAgree (Moves acts m) P = P m
ThenAgree (Ends end m) P = Unit {0}

abbrev pub Agree : {X Y : Type 0} → Setup → (Positions → X → Sampling) → (Positions → Y → Sampling) → Machine → List X
    → List Y → Type 0
Agree s f g m [] [] = Unit {0}
Agree s f g m [] (y ∷ ys) = ⊥
Agree s f g m (x ∷ xs) [] = ⊥
Agree s f g m (x ∷ xs) (y ∷ ys) = (f m.at x ≡ g m.at y) × ThenAgree (outcome_of s m (f m.at x)) (λ n. Agree s f g n xs ys)

-- (X and Y stand for states, balls, or samplings)
abbrev pub AgreeLaw : Type 0 → Type 0 → Type 0
AgreeLaw X Y = (s : Setup) (f : Positions → X → Sampling) (g : Positions → Y → Sampling) (m : Machine) (xs : List X) (ys : List Y) →
    Agree s f g m xs ys → settle_of s f m xs ≡ settle_of s g m ys

-- ---- any states in the balls

-- they give the acts of their rounds
abbrev pub HistoryLaw : {Y X : Type 0} → (Positions → Y → X → Type 0) → (Positions → Y → Sampling)
    → (Positions → X → Sampling) → Type 0
HistoryLaw {Y} {X} holds of_ball of_state = AreOfHeld holds of_ball of_state →
    (s : Setup) (m : Machine) (ys : List Y) (xs : List X) → AreChosen s holds of_ball m ys xs →
    (settle_of s of_state m xs).rounds ≡ take (length xs) (settle_of s of_ball m ys).rounds

-- one for each solve gives the end too, and what is left
abbrev pub WholeLaw : {Y X : Type 0} → (Positions → Y → X → Type 0) → (Positions → Y → Sampling)
    → (Positions → X → Sampling) → Type 0
WholeLaw {Y} {X} holds of_ball of_state = AreOfHeld holds of_ball of_state →
    (s : Setup) (m : Machine) (ys : List Y) (xs : List X) → AreChosen s holds of_ball m ys xs → length xs ≡ length ys →
    settle_of s of_state m xs ≡ settle_of s of_ball m ys

-- ---- the end

-- no entry of the queue is due at the machine's time; so in static mode there is none
abbrev pub NothingDue : Setup → Machine → Type 0
NothingDue s m = AllByRecursion (λ e. s.rule.is_due m.now e ≡ false) m.queue

-- (X stands for states or balls)
abbrev pub EndLaw : Type 0 → Type 0
EndLaw X = (s : Setup) (look : Positions → X → Sampling) (m : Machine) (xs : List X)
    → (settle_of s look m xs).end ≡ Settled → NothingDue s (settle_of s look m xs).machine
