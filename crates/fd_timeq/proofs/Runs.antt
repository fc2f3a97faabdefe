-- The hours of a run by the clock, and what waits at its end.
use Rattle.std.proofs.Common.{◌≡◌, ◌∙◌, ℕ, Bool, true, false, cond, List, [], ◌∷◌, length, map, refl, ap, subst, sym}
use Rattle.fd_daily.specs.fd_settings.dss_circuit.Circuit.{CircuitView}
use Rattle.fd_daily.specs.fd_queue.Controls.{Positions}
use Rattle.fd_daily.specs.fd_queue.Machine.{Machine}
use Rattle.fd_daily.specs.fd_settle.Chosen.{AreOfHeld}
use Rattle.fd_daily.specs.fd_settle.Sampling.{Sampling}
use Rattle.fd_daily.specs.fd_settle.Settle.{Settle, settle_of}
use Rattle.fd_daily.specs.Chosen.{AreChosenRun}
use Rattle.fd_daily.specs.Hours.{hours_of}
use Rattle.fd_daily.specs.Run.{Hour, day_of, is_settled, run_of}
use Rattle.fd_daily.proofs.CallerLemmas.fd_settle.{whole}
use Rattle.fd_timeq.specs.Laws.{AreCarried, IsCarriedOn}
use Rattle.fd_timeq.specs.Timed.{IsInTimeMode, carried, timed, timed_setup}
use Rattle.fd_timeq.specs.Waiting.{left_waiting}
use Rattle.fd_timeq.proofs.Timing.{day_there}

module _ {C X : Type 0} (look : C → Positions → X → Sampling) (at_hour : ℕ → C) (c : CircuitView) where
  more_by : (t : Bool) (hours : List ℕ) (m : Machine) (xss : List (List X)) (ss : List Settle)
      → AreCarried look at_hour c hours m xss ss → AreCarried look at_hour c hours m xss (cond t ss [])
  more_by true hours m xss ss h = h
  more_by false hours m xss ss h = tt

  carried_on : (hours : List ℕ) (m : Machine) (xss : List (List X))
      → AreCarried look at_hour c hours m xss (run_of look (map (timed at_hour c) hours) m xss)
  carried_on [] m xss = tt
  carried_on (hour ∷ hours) m [] = tt
  carried_on (hour ∷ hours) m (xs ∷ xss) =
      let s : Settle = settle_of (timed_setup c) (look (at_hour hour)) (carried hour m) xs in
      let rest : List Settle = run_of look (map (timed at_hour c) hours) s.machine xss in
      (refl, more_by (is_settled s.end) hours s.machine xss rest (carried_on hours s.machine xss))

pub time_run : {C X : Type 0} (look : C → Positions → X → Sampling) (at_hour : ℕ → C) (c : CircuitView) (m : Machine)
    (xss : List (List X)) → IsInTimeMode c → IsCarriedOn look at_hour c m xss (run_of look (day_of at_hour c) m xss)
time_run {C} {X} look at_hour c m xss e =
    subst (λ (hs : List (Hour C)). IsCarriedOn look at_hour c m xss (run_of look hs m xss)) (sym (day_there c e at_hour)) (record {
      fold = refl;
      each = carried_on look at_hour c (hours_of c.options) m xss;
    })

-- ---- a state for each round

none_there : {C X : Type 0} (look : C → Positions → X → Sampling) (hs : List (Hour C)) (m : Machine)
    → run_of look hs m [] ≡ []
none_there look [] m = refl
none_there look (o ∷ hs) m = refl

-- an hour and those behind it, where these go the same way if it ended well
same_by : (t : Bool) (s : Settle) (ss others : List Settle) → (t ≡ true → ss ≡ others) → s ∷ cond t ss [] ≡ s ∷ cond t others []
same_by true s ss others h = ap (λ (rest : List Settle). s ∷ rest) (h refl)
same_by false s ss others h = refl

module _ {C Y X : Type 0} (holds : C → Positions → Y → X → Type 0) (of_ball : C → Positions → Y → Sampling)
    (of_state : C → Positions → X → Sampling) (h : (c : C) → AreOfHeld (holds c) (of_ball c) (of_state c)) where
  -- the run over the states is that over the balls
  whole_run : (hs : List (Hour C)) (m : Machine) (yss : List (List Y)) (xss : List (List X))
      → AreChosenRun holds of_ball hs m yss xss → map length xss ≡ map length yss
      → run_of of_state hs m xss ≡ run_of of_ball hs m yss
  whole_run hs m [] [] k e = none_there of_state hs m ∙ sym (none_there of_ball hs m)
  whole_run hs m (ys ∷ yss) [] k e = absurd (cc)
  whole_run hs m [] (xs ∷ xss) k e = absurd (cc)
  whole_run [] m (ys ∷ yss) (xs ∷ xss) k e = absurd k
  whole_run (o ∷ hs) m (ys ∷ zs ∷ yss) (xs ∷ []) k e = absurd (cc)
  whole_run (o ∷ hs) m (ys ∷ []) (xs ∷ []) k e =
      let t : Settle = settle_of o.setup (of_ball o.circuit) (o.start m) ys in
      let each : length xs ≡ length ys = cc in
      ap (λ (u : Settle). u ∷ cond (is_settled u.end) (run_of of_state hs u.machine []) [])
      (whole (holds o.circuit) (of_ball o.circuit) (of_state o.circuit) (h o.circuit) o.setup (o.start m) ys xs k.0 each)
      ∙ same_by (is_settled t.end) t (run_of of_state hs t.machine []) (run_of of_ball hs t.machine [])
      (λ well. none_there of_state hs t.machine ∙ sym (none_there of_ball hs t.machine))
  whole_run (o ∷ hs) m (ys ∷ yss) (xs ∷ zs ∷ xss) k e =
      let t : Settle = settle_of o.setup (of_ball o.circuit) (o.start m) ys in
      let each : map length (zs ∷ xss) ≡ map length yss = cc in
      ap (λ (u : Settle). u ∷ cond (is_settled u.end) (run_of of_state hs u.machine (zs ∷ xss)) [])
      (whole (holds o.circuit) (of_ball o.circuit) (of_state o.circuit) (h o.circuit) o.setup (o.start m) ys xs k.0 k.1.each)
      ∙ same_by (is_settled t.end) t (run_of of_state hs t.machine (zs ∷ xss)) (run_of of_ball hs t.machine yss)
      (λ well. whole_run hs t.machine yss (zs ∷ xss) k.1.rest each)

pub same_waiting : {C Y X : Type 0} (holds : C → Positions → Y → X → Type 0) (of_ball : C → Positions → Y → Sampling)
    (of_state : C → Positions → X → Sampling) → ((c : C) → AreOfHeld (holds c) (of_ball c) (of_state c))
    → (hs : List (Hour C)) (m : Machine) (yss : List (List Y)) (xss : List (List X))
    → AreChosenRun holds of_ball hs m yss xss → map length xss ≡ map length yss
    → left_waiting m (run_of of_state hs m xss) ≡ left_waiting m (run_of of_ball hs m yss)
same_waiting holds of_ball of_state h hs m yss xss k e =
    ap (left_waiting m) (whole_run holds of_ball of_state h hs m yss xss k e)
