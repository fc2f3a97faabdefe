-- The laws of runs.
use Rattle.std.specs.Prelude.{◌≡◌, List, [], ◌∷◌, ◌++◌, length, map}
use Rattle.fd_settle.specs.fd_queue.Controls.{Positions}
use Rattle.fd_settle.specs.fd_queue.Machine.{Machine}
use Rattle.fd_settle.specs.Sampling.{Sampling}
use Rattle.fd_settle.specs.Settle.{settle_of}
use Rattle.fd_settle.specs.Chosen.{AreOfHeld}
use Rattle.fd_daily.specs.Run.{AreWell, Hour, left_by_run, run_of}
use Rattle.fd_daily.specs.Chosen.{AreChosenRun, first_rounds}

-- any states in the balls give the acts of their rounds, over all hours
abbrev pub RunLaw : {C Y X : Type 0} → (C → Positions → Y → X → Type 0) → (C → Positions → Y → Sampling)
    → (C → Positions → X → Sampling) → Type 0
RunLaw {C} {Y} {X} holds of_ball of_state = ((c : C) → AreOfHeld (holds c) (of_ball c) (of_state c)) →
    (hs : List (Hour C)) (m : Machine) (yss : List (List Y)) (xss : List (List X)) → AreChosenRun holds of_ball hs m yss xss →
    map (λ s. s.rounds) (run_of of_state hs m xss) ≡ first_rounds xss (map (λ s. s.rounds) (run_of of_ball hs m yss))

-- a run whose settles so far all ended well goes on with the settle of the next hour, from what they left
abbrev pub NextHourLaw : Type 0 → Type 0 → Type 0
NextHourLaw C X =
    (look : C → Positions → X → Sampling) (hs : List (Hour C)) (h : Hour C) (rest : List (Hour C)) (m : Machine)
    (xss : List (List X)) (xs : List X)
    → length xss ≡ length hs → AreWell (run_of look (hs ++ h ∷ rest) m xss)
    → run_of look (hs ++ h ∷ rest) m (xss ++ xs ∷ [])
    ≡ run_of look (hs ++ h ∷ rest) m xss
    ++ settle_of h.setup (look h.circuit) (h.start (left_by_run m (run_of look (hs ++ h ∷ rest) m xss))) xs ∷ []
