-- The acts of a run follow from the decisions alone.
use Rattle.std.proofs.Common.{◌≡◌, Bool, true, false, cond, List, [], ◌∷◌, length, take, map, refl, ap, ◌∙◌, rules}
use Rattle.fd_settle.specs.fd_queue.Controls.{Positions}
use Rattle.fd_settle.specs.fd_queue.Machine.{Machine, Act}
use Rattle.fd_settle.specs.Sampling.{Sampling}
use Rattle.fd_settle.specs.Settle.{Settle, settle_of}
use Rattle.fd_settle.specs.Chosen.{AreOfHeld}
use Rattle.fd_settle.specs.Laws.{HistoryLaw, WholeLaw}
use Rattle.fd_daily.specs.Run.{Hour, is_settled, run_of}
use Rattle.fd_daily.specs.Chosen.{AreChosenRun, first_rounds}

run_of_none : {C X : Type 0} (look : C → Positions → X → Sampling) (hs : List (Hour C)) (m : Machine)
    → run_of look hs m [] ≡ []
run_of_none look [] m = refl
run_of_none look (h ∷ hs) m = refl

ends_there : (t : Bool) (ss : List Settle) → ss ≡ [] → map (λ (s : Settle). s.rounds) (cond t ss []) ≡ []
ends_there true ss e = ap (map (λ (s : Settle). s.rounds)) e
ends_there false ss e = refl

goes_on : {X : Type 0} (t : Bool) (ss others : List Settle) (xss : List (List X)) → t ≡ true
    → map (λ (s : Settle). s.rounds) ss ≡ first_rounds xss (map (λ (s : Settle). s.rounds) others) →
    map (λ (s : Settle). s.rounds) (cond t ss []) ≡ first_rounds xss (map (λ (s : Settle). s.rounds) (cond t others []))
goes_on true ss others xss e h = h
goes_on false ss others xss e h = absurd (cc)

join : (a b : List (List Act)) (c d : List (List (List Act))) → a ≡ b → c ≡ d → a ∷ c ≡ b ∷ d
join a b c d h k = cc

pub run_history : {C Y X : Type 0} (holds : C → Positions → Y → X → Type 0) (of_ball : C → Positions → Y → Sampling)
    (of_state : C → Positions → X → Sampling)
    → ((c : C) → HistoryLaw (holds c) (of_ball c) (of_state c))
    → ((c : C) → WholeLaw (holds c) (of_ball c) (of_state c))
    → ((c : C) → AreOfHeld (holds c) (of_ball c) (of_state c))
    → (hs : List (Hour C)) (m : Machine) (yss : List (List Y)) (xss : List (List X))
    → AreChosenRun holds of_ball hs m yss xss
    → map (λ s. s.rounds) (run_of of_state hs m xss)
    ≡ first_rounds xss (map (λ s. s.rounds) (run_of of_ball hs m yss))
run_history holds of_ball of_state history whole h [] m yss [] k = refl
run_history holds of_ball of_state history whole h (o ∷ hs) m yss [] k = refl
run_history holds of_ball of_state history whole h [] m yss (xs ∷ xss) k = absurd k
run_history holds of_ball of_state history whole h (o ∷ hs) m [] (xs ∷ xss) k = absurd k
run_history holds of_ball of_state history whole h (o ∷ hs) m (ys ∷ yss) (xs ∷ []) k =
    let s = settle_of o.setup (of_state o.circuit) (o.start m) xs in
    let t = settle_of o.setup (of_ball o.circuit) (o.start m) ys in
    join s.rounds (take (length xs) t.rounds) _ _
    (history o.circuit (h o.circuit) o.setup (o.start m) ys xs k.0)
    (ends_there (is_settled s.end) (run_of of_state hs s.machine []) (run_of_none of_state hs s.machine))
run_history holds of_ball of_state history whole h (o ∷ hs) m (ys ∷ yss) (xs ∷ zs ∷ xss) k =
    let s = settle_of o.setup (of_state o.circuit) (o.start m) xs in
    let t = settle_of o.setup (of_ball o.circuit) (o.start m) ys in
    let same : s ≡ t = whole o.circuit (h o.circuit) o.setup (o.start m) ys xs k.0 k.1.each in
    join s.rounds (take (length xs) t.rounds) _ _
    (history o.circuit (h o.circuit) o.setup (o.start m) ys xs k.0)
    (ap (λ (u : Settle). map (λ (r : Settle). r.rounds) (cond (is_settled u.end) (run_of of_state hs u.machine (zs ∷ xss)) [])) same
    ∙ goes_on (is_settled t.end) (run_of of_state hs t.machine (zs ∷ xss)) (run_of of_ball hs t.machine yss) (zs ∷ xss) (search rules)
    (run_history holds of_ball of_state history whole h hs t.machine yss (zs ∷ xss) k.1.rest))
