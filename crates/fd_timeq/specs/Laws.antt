-- The laws of a Solve in controlmode time.
use Rattle.std.specs.Prelude.{◌<◌, All, Contains, ◌≡◌, ℕ, List, [], ◌∷◌, length, map}
use Rattle.fd_daily.specs.dss_ready.Ready.{HasPassed}
use Rattle.fd_daily.specs.fd_settings.dss_circuit.Circuit.{CircuitView}
use Rattle.fd_daily.specs.fd_settings.dss_circuit.InRange.{AllInRange}
use Rattle.fd_daily.specs.fd_settings.dss_circuit.WellFormed.{IsEntry}
use Rattle.fd_daily.specs.fd_settings.Hours.{hour_powers}
use Rattle.fd_daily.specs.fd_enclosure.Sound.{Claim}
use Rattle.fd_daily.specs.fd_queue.Controls.{Positions}
use Rattle.fd_daily.specs.fd_queue.Machine.{Machine}
use Rattle.fd_daily.specs.fd_queue.declared.entry.Entry.{Entry}
use Rattle.fd_daily.specs.fd_settle.Chosen.{AreOfHeld}
use Rattle.fd_daily.specs.fd_settle.Kept.{IsMachineOf}
use Rattle.fd_daily.specs.fd_settle.Sampling.{Sampling}
use Rattle.fd_daily.specs.fd_settle.Settle.{Settle, settle_of}
use Rattle.fd_daily.specs.Chosen.{AreChosenRun}
use Rattle.fd_daily.specs.Hours.{hours_of, time_of}
use Rattle.fd_daily.specs.Run.{Hour, day_of, run_of}
use Rattle.fd_timeq.specs.Timed.{IsInTimeMode, carried, timed, timed_plant, timed_setup}
use Rattle.fd_timeq.specs.Waiting.{GoesOnWanting, left_waiting}

-- Each of these settles is that of its hour, by the clock, from the machine that the settle before left. They may be fewer
-- than the hours.
abbrev pub AreCarried : {C X : Type 0} → (C → Positions → X → Sampling) → (ℕ → C) → CircuitView → List ℕ → Machine
    → List (List X) → List Settle → Type 0
AreCarried look at_hour c hours m xss [] = Unit {0}
AreCarried look at_hour c [] m xss (s ∷ ss) = ⊥
AreCarried look at_hour c (hour ∷ hours) m [] (s ∷ ss) = ⊥
AreCarried look at_hour c (hour ∷ hours) m (xs ∷ xss) (s ∷ ss) =
    (s ≡ settle_of (timed_setup c) (look (at_hour hour)) (carried hour m) xs)
    × AreCarried look at_hour c hours s.machine xss ss

-- The run of a Solve is the fold of the settles of its hours by the clock. So each hour begins with the machine that the
-- hour before left, at its own time and with no act counted.
pub record IsCarriedOn {C X : Type 0} (look : C → Positions → X → Sampling) (at_hour : ℕ → C) (c : CircuitView) (m : Machine)
    (xss : List (List X)) (run : List Settle) : Type 0 where
  pub fold : run ≡ run_of look (map (timed at_hour c) (hours_of c.options)) m xss
  pub each : AreCarried look at_hour c (hours_of c.options) m xss run

-- (X stands for states or balls, and C for what is sampled in an hour)
abbrev pub TimeRunLaw : Type 0 → Type 0 → Type 0
TimeRunLaw C X =
    (look : C → Positions → X → Sampling) (at_hour : ℕ → C) (c : CircuitView) (m : Machine) (xss : List (List X))
    → IsInTimeMode c → IsCarriedOn look at_hour c m xss (run_of look (day_of at_hour c) m xss)

-- Whatever states are chosen in the balls, one for each round of each hour, the entries that wait at the end are those of
-- the balls.
abbrev pub PendingLaw : {C Y X : Type 0} → (C → Positions → Y → X → Type 0) → (C → Positions → Y → Sampling)
    → (C → Positions → X → Sampling) → Type 0
PendingLaw {C} {Y} {X} holds of_ball of_state = ((c : C) → AreOfHeld (holds c) (of_ball c) (of_state c)) →
    (hs : List (Hour C)) (m : Machine) (yss : List (List Y)) (xss : List (List X))
    → AreChosenRun holds of_ball hs m yss xss → map length xss ≡ map length yss
    → left_waiting m (run_of of_state hs m xss) ≡ left_waiting m (run_of of_ball hs m yss)

-- An entry that isn't due at an hour, and whose control goes on wanting its way over the certified states of the hour's
-- rounds, stands in the queue at the hour's end, as it was.
abbrev pub LastsLaw : Type 0
LastsLaw =
    (c : CircuitView) (hour : ℕ) (m : Machine) (claims : List Claim) (e : Entry)
    → IsInTimeMode c → HasPassed c → AllInRange c.elements → All IsEntry c.elements
    → IsMachineOf c (hour_powers c.elements hour) m → Contains m.queue e → time_of hour < e.time
    → GoesOnWanting e (timed_setup c) (timed_plant c hour).look (carried hour m) claims
    → Contains (settle_of (timed_setup c) (timed_plant c hour).look (carried hour m) claims).machine.queue e
