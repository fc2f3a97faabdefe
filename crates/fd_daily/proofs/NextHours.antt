-- A run goes on hour by hour.
use Rattle.std.proofs.Common.{◌≡◌, Bool, true, false, cond, List, [], ◌∷◌, ◌++◌, length, IsTrue, refl, ap, sym, ◌∙◌, arith}
use Rattle.fd_settle.specs.fd_queue.Controls.{Positions}
use Rattle.fd_settle.specs.fd_queue.Machine.{Machine}
use Rattle.fd_settle.specs.Sampling.{Sampling}
use Rattle.fd_settle.specs.Settle.{Settle, settle_of}
use Rattle.fd_daily.specs.Run.{AreWell, Hour, is_settled, left_by_run, run_of}

no_more : {C X : Type 0} (look : C → Positions → X → Sampling) (hs : List (Hour C)) (m : Machine)
    → run_of look hs m [] ≡ []
no_more look [] m = refl
no_more look (h ∷ hs) m = refl

alone : (t : Bool) (s : Settle) (ss : List Settle) → ss ≡ [] → s ∷ cond t ss [] ≡ s ∷ []
alone true s ss e = ap (λ (rest : List Settle). s ∷ rest) e
alone false s ss e = refl

well : (t : Bool) → IsTrue t → (ss : List Settle) → cond t ss [] ≡ ss
well true h ss = refl
well false h ss = absurd (cc)

first_settle : {C X : Type 0} (look : C → Positions → X → Sampling) (h : Hour C) (rest : List (Hour C)) (m : Machine) (xs : List X) →
    run_of look (h ∷ rest) m (xs ∷ []) ≡ settle_of h.setup (look h.circuit) (h.start m) xs ∷ []
first_settle look h rest m xs =
    let s = settle_of h.setup (look h.circuit) (h.start m) xs in
    alone (is_settled s.end) s (run_of look rest s.machine []) (no_more look rest s.machine)

-- an hour that ended well, before others
well_before : {C X : Type 0} (look : C → Positions → X → Sampling) (h : Hour C) (hs : List (Hour C)) (m : Machine) (xs : List X) (xss : List (List X))
    → (s : Settle) → settle_of h.setup (look h.circuit) (h.start m) xs ≡ s →
    IsTrue (is_settled s.end) → run_of look (h ∷ hs) m (xs ∷ xss) ≡ s ∷ run_of look hs s.machine xss
well_before look h hs m xs xss s e settled =
    ap (λ (t : Settle). t ∷ cond (is_settled t.end) (run_of look hs t.machine xss) []) e
    ∙ ap (λ (ss : List Settle). s ∷ ss) (well (is_settled s.end) settled (run_of look hs s.machine xss))

first_well : (t : Bool) (s : Settle) (ss : List Settle) → AreWell (s ∷ cond t ss []) → IsTrue (is_settled s.end)
first_well t s ss h = h.0

rest_well : (t : Bool) (s : Settle) (ss : List Settle) → IsTrue t → AreWell (s ∷ cond t ss []) → AreWell ss
rest_well true s ss e h = h.1
rest_well false s ss e h = absurd (cc)

pub next_hour : {C X : Type 0} (look : C → Positions → X → Sampling) (hs : List (Hour C)) (h : Hour C)
    (rest : List (Hour C)) (m : Machine) (xss : List (List X)) (xs : List X)
    → length xss ≡ length hs → AreWell (run_of look (hs ++ h ∷ rest) m xss)
    → run_of look (hs ++ h ∷ rest) m (xss ++ xs ∷ [])
    ≡ run_of look (hs ++ h ∷ rest) m xss
    ++ settle_of h.setup (look h.circuit) (h.start (left_by_run m (run_of look (hs ++ h ∷ rest) m xss))) xs ∷ []
next_hour look [] h rest m [] xs each are = first_settle look h rest m xs
next_hour look [] h rest m (ys ∷ yss) xs each are = absurd (omega arith)
next_hour look (o ∷ hs) h rest m [] xs each are = absurd (omega arith)
next_hour look (o ∷ hs) h rest m (ys ∷ yss) xs each are =
    let s : Settle = settle_of o.setup (look o.circuit) (o.start m) ys in
    let later = run_of look (hs ++ h ∷ rest) s.machine yss in
    let settled : IsTrue (is_settled s.end) = first_well (is_settled s.end) s later are in
    let counts : length yss ≡ length hs = omega arith in
    let behind = next_hour look hs h rest s.machine yss xs counts (rest_well (is_settled s.end) s later settled are) in
    let here : run_of look (o ∷ hs ++ h ∷ rest) m (ys ∷ yss) ≡ s ∷ later = well_before look o (hs ++ h ∷ rest) m ys yss s refl settled in
    well_before look o (hs ++ h ∷ rest) m ys (yss ++ xs ∷ []) s refl settled
    ∙ ap (λ (ss : List Settle). s ∷ ss) behind
    ∙ sym (ap (λ (ss : List Settle). ss ++ settle_of h.setup (look h.circuit) (h.start (left_by_run m ss)) xs ∷ []) here)
