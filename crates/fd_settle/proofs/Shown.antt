-- All controls react, and the nearest entries act: what these show of the machine.
use Rattle.std.proofs.Common.{◌≡◌, ◌≢◌, ◌==◌, get_or, ℕ, ◌+◌, ◌<◌, Bool, List, [], ◌∷◌, map, length, Option, refl, sym, ap, subst, ◌∙◌}
use Rattle.std.specs.List.{AllByRecursion}
use Rattle.fd_inject.specs.fd_arith.declared.terms.TapPair.{TapPair}
use Rattle.fd_sample.specs.fd_queue.Controls.{Positions}
use Rattle.fd_sample.specs.fd_queue.Decisions.{Decision}
use Rattle.fd_sample.specs.fd_queue.Machine.{Act, Machine, all_acted, sampled}
use Rattle.fd_sample.specs.fd_queue.Queue.{HaveOneEach, IsQueue, QueueView, later, least_time, nearest}
use Rattle.fd_sample.specs.fd_queue.Verdicts.{decision}
use Rattle.fd_sample.specs.fd_queue.declared.entry.Entry.{Entry}
use Rattle.fd_sample.specs.fd_queue.declared.timing.Timing.{Timing}
use Rattle.fd_sample.specs.fd_queue.declared.verdict.Verdict.{Verdict}
use Rattle.fd_settle.specs.declared.clock.Clock.{Clock}
use Rattle.fd_settle.specs.declared.state.ControlState.{ControlState}
use Rattle.fd_settle.specs.declared.state.ControlState.TheVariants as state
use Rattle.fd_settle.specs.Acting.{ActsLeadTo, AllCanAct, AreStanding, CanAct, controls_of, judged, setup_of_states, verdict_in, waiting, with_verdict}
use Rattle.fd_settle.specs.Controls.{OpensEarly, moved_in, probe_in}
use Rattle.fd_settle.proofs.Lists.{each_filter, pairs_filter}

-- ---- reacting

moved_same : (v : Decision) (s : ControlState) → moved_in (with_verdict v s) ≡ moved_in s
moved_same v (state.Regulator p s) = refl
moved_same v (state.Bank p s) = refl

pub judged_moves : (ss : List ControlState) (vs : List Decision) → map moved_in (judged ss vs) ≡ map moved_in ss
judged_moves [] vs = refl
judged_moves (s ∷ ss) [] = refl
judged_moves (s ∷ ss) (v ∷ vs) =
    ap (λ o. o ∷ map moved_in (judged ss vs)) (moved_same v s) ∙ ap (λ os. moved_in s ∷ os) (judged_moves ss vs)

probe_same : (v : Decision) (s : ControlState) → probe_in (with_verdict v s) ≡ probe_in s
probe_same v (state.Regulator p s) = refl
probe_same v (state.Bank p s) = refl

pub judged_probes : (ss : List ControlState) (vs : List Decision) → map probe_in (judged ss vs) ≡ map probe_in ss
judged_probes [] vs = refl
judged_probes (s ∷ ss) [] = refl
judged_probes (s ∷ ss) (v ∷ vs) =
    ap (λ p. p ∷ map probe_in (judged ss vs)) (probe_same v s) ∙ ap (λ ps. probe_in s ∷ ps) (judged_probes ss vs)

-- the machine with the same moves
pub waits_same : (at : Positions) (made : ℕ) (clock : Clock) (ss new : List ControlState) (q : QueueView)
    → map moved_in new ≡ map moved_in ss →
    waiting at made clock ss q ≡ waiting at made clock new q
waits_same at made clock ss new q e = ap (λ os. record {
  at = at;
  now = clock.now;
  opened = clock.opened.items;
  moves = os;
  queue = q.entries;
  next = q.next;
  made = made;
}) (sym e)

pub reacted_shows : (at : Positions) (made : ℕ) (clock : Clock) (ss ss₂ new : List ControlState) (vs vs₂ : List Verdict) (q q' : QueueView) →
    ss₂ ≡ ss → vs₂ ≡ vs → new ≡ judged ss (map decision vs) →
    sampled 0 (controls_of ss₂) (map decision vs₂) (waiting at made clock ss₂ q) ≡ waiting at made clock ss₂ q' →
    sampled 0 (controls_of ss) (map decision vs) (waiting at made clock ss q) ≡ waiting at made clock new q'
reacted_shows at made clock ss ss₂ new vs vs₂ q q' e f is h =
    let here : sampled 0 (controls_of ss) (map decision vs) (waiting at made clock ss q) ≡ waiting at made clock ss q' =
    subst (λ xs. sampled 0 (controls_of xs) (map decision vs) (waiting at made clock xs q) ≡ waiting at made clock xs q') e
    (subst (λ ws. sampled 0 (controls_of ss₂) (map decision ws) (waiting at made clock ss₂ q) ≡ waiting at made clock ss₂ q') f h) in
    here ∙ waits_same at made clock ss new q' (ap (map moved_in) is ∙ judged_moves ss (map decision vs))

-- ---- acting

pub act_from : (timing : Timing) (now : ℕ) (due due₂ : List Entry) (ss ss₂ : List ControlState) (taps taps₂ : List TapPair) (closed closed₂ : List Bool) (opened opened₂ : List (Option ℕ))
    (new new₂ : List ControlState) (taps' taps₃ : List TapPair) (closed' closed₃ : List Bool) (opened' opened₃ : List (Option ℕ)) (made : List Act) →
    due₂ ≡ due → ss₂ ≡ ss → taps₂ ≡ taps → closed₂ ≡ closed → opened₂ ≡ opened → new₂ ≡ new → taps₃ ≡ taps' → closed₃ ≡ closed' → opened₃ ≡ opened' →
    ActsLeadTo timing now due₂ ss₂ taps₂ closed₂ opened₂ new₂ taps₃ closed₃ opened₃ made → ActsLeadTo timing now due ss taps closed opened new taps' closed' opened' made
act_from timing now due due₂ ss ss₂ taps taps₂ closed closed₂ opened opened₂ new new₂ taps' taps₃ closed' closed₃ opened' opened₃ made e₁ e₂ e₃ e₄ e₅ e₆ e₇ e₈ e₉ h =
    subst (λ x. ActsLeadTo timing now x ss taps closed opened new taps' closed' opened' made) e₁
    (subst (λ x. ActsLeadTo timing now due₂ x taps closed opened new taps' closed' opened' made) e₂
    (subst (λ x. ActsLeadTo timing now due₂ ss₂ x closed opened new taps' closed' opened' made) e₃
    (subst (λ x. ActsLeadTo timing now due₂ ss₂ taps₂ x opened new taps' closed' opened' made) e₄
    (subst (λ x. ActsLeadTo timing now due₂ ss₂ taps₂ closed₂ x new taps' closed' opened' made) e₅
    (subst (λ x. ActsLeadTo timing now due₂ ss₂ taps₂ closed₂ opened₂ x taps' closed' opened' made) e₆
    (subst (λ x. ActsLeadTo timing now due₂ ss₂ taps₂ closed₂ opened₂ new₂ x closed' opened' made) e₇
    (subst (λ x. ActsLeadTo timing now due₂ ss₂ taps₂ closed₂ opened₂ new₂ taps₃ x opened' made) e₈
    (subst (λ x. ActsLeadTo timing now due₂ ss₂ taps₂ closed₂ opened₂ new₂ taps₃ closed₃ x made) e₉ h))))))))

-- the machine after the entries of the least time have acted
pub all_acted_shows : (timing : Timing) (limit : ℕ) (at at' : Positions) (made : ℕ) (clock clock' : Clock) (ss new : List ControlState) (q q' : QueueView) (acts : List Act) →
    ActsLeadTo timing clock.now (nearest q.entries) ss at.taps at.closed clock.opened.items new at'.taps at'.closed clock'.opened.items acts →
    q'.entries ≡ later q.entries → q'.next ≡ q.next → clock'.now ≡ clock.now →
    all_acted (setup_of_states timing limit ss) (map verdict_in ss) (waiting at made clock ss q) ≡ waiting at' (made + 1) clock' new q'
all_acted_shows timing limit at at' made clock clock' ss new q q' acts h entries next now =
    let m = waiting at made clock ss q in
    ap (λ (x : Machine). record x { made = made + 1 }) (h.machine limit (record m { queue = later q.entries }))
    ∙ ap (λ (es : List Entry). record {
      at = record { taps = at'.taps; closed = at'.closed };
      now = clock.now;
      opened = clock'.opened.items;
      moves = map moved_in new;
      queue = es;
      next = q.next;
      made = made + 1;
    }) (sym entries)
    ∙ ap (λ (k : ℕ). record {
      at = record { taps = at'.taps; closed = at'.closed };
      now = clock.now;
      opened = clock'.opened.items;
      moves = map moved_in new;
      queue = q'.entries;
      next = k;
      made = made + 1;
    }) (sym next)
    ∙ ap (λ (k : ℕ). record {
      at = record { taps = at'.taps; closed = at'.closed };
      now = k;
      opened = clock'.opened.items;
      moves = map moved_in new;
      queue = q'.entries;
      next = q'.next;
      made = made + 1;
    }) (sym now)

-- ---- what the due entries keep to

pub due_each : (due es : List Entry) (next : ℕ) → due ≡ nearest es → IsQueue next es → HaveOneEach due
due_each due es next e h = subst HaveOneEach (sym e) (pairs_filter (λ a b. a.control ≢ b.control) (λ x. x.time == least_time es) es h.one_each)

pub due_controls : (due es : List Entry) (ss ss₂ : List ControlState) → due ≡ nearest es → ss₂ ≡ ss
    → AllByRecursion (λ e. e.control < length ss) es →
    AllByRecursion (λ e. e.control < length ss₂) due
due_controls due es ss ss₂ e f h =
    subst (λ xs. AllByRecursion (λ x. x.control < length xs) due) (sym f)
    (subst (AllByRecursion (λ x. x.control < length ss)) (sym e) (each_filter (λ x. x.control < length ss) (λ x. x.time == least_time es) es h))

pub due_acts : (due es : List Entry) (ss ss₂ : List ControlState) (taps taps₂ : List TapPair) → due ≡ nearest es
    → ss₂ ≡ ss → taps₂ ≡ taps →
    AllCanAct taps ss es → AllCanAct taps₂ ss₂ due
due_acts due es ss ss₂ taps taps₂ e f g h =
    subst (λ ts. AllCanAct ts ss₂ due) (sym g) (subst (λ xs. AllCanAct taps xs due) (sym f) (subst (AllCanAct taps ss) (sym e)
    (each_filter (λ x. (d : ControlState) → CanAct taps (get_or ss x.control d) x) (λ x. x.time == least_time es) es h)))

pub due_early : (due es : List Entry) → due ≡ nearest es → AllByRecursion OpensEarly es → AllByRecursion OpensEarly due
due_early due es e h = subst (AllByRecursion OpensEarly) (sym e) (each_filter OpensEarly (λ x. x.time == least_time es) es h)

pub stands_from : (taps taps' : List TapPair) (closed closed' : List Bool) (opened opened' : List (Option ℕ)) (ss ss' : List ControlState) →
    taps ≡ taps' → closed ≡ closed' → opened ≡ opened' → ss ≡ ss' → AreStanding taps closed opened ss → AreStanding taps' closed' opened' ss'
stands_from taps taps' closed closed' opened opened' ss ss' e f g i h =
    subst (λ x. AreStanding x closed' opened' ss') e (subst (λ x. AreStanding taps x opened' ss') f
    (subst (λ x. AreStanding taps closed x ss') g (subst (λ x. AreStanding taps closed opened x) i h)))
