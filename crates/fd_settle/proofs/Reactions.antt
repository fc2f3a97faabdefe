-- The controls react, one more.
use Rattle.std.proofs.Common.{◌≡◌, ℕ, zero, suc, ◌+◌, ◌<◌, ◌≤◌, Bool, true, false, cond, not, List, [], ◌∷◌, ◌++◌, map, take, length, get_or, set, Option, Some, None, refl, sym, ap, subst, ◌∙◌, arith}
use Rattle.std.specs.Prelude.{All, ◌^◌, ◌==◌, ◌||◌, nat_le, nat_lt}
use Rattle.std.specs.List.{AllByRecursion, filter, list_any}
use Rattle.fd_sample.specs.fd_queue.Controls.{Control, Positions, Regulates, Switches}
use Rattle.fd_sample.specs.fd_queue.Decisions.{Decision, is_way, way_of}
use Rattle.fd_sample.specs.fd_queue.Machine.{Machine, Quiet, Rule, Setup, ShowsQueue, Step, asked, entry_time, kept, new_entry, reacted, sampled, step_of}
use Rattle.fd_sample.specs.fd_queue.MachineLaws.{IsQueueOf, KeepsQueue, Leaves, QueueLaw, SpareLaw}
use Rattle.fd_sample.specs.fd_queue.Queue.{QueueView, has_entry, queued}
use Rattle.fd_settle.specs.declared.clock.Clock.{Clock}
use Rattle.fd_settle.specs.declared.state.ControlState.{ControlState}
use Rattle.fd_settle.specs.declared.state.ControlState.TheVariants as state
use Rattle.fd_settle.specs.Acting.{HasEarlyTimes, Reacts, ShowsState, control_in, controls_of, judged, number_in, waiting, with_verdict}
use Rattle.fd_settle.specs.Controls.{AreStates, IsStateOf, OpensEarly, moved_in, probe_in}
use Rattle.fd_sample.specs.declared.probe.Probe.{Probe}
use Rattle.fd_sample.specs.declared.probe.Probe.TheVariants as probe
use Rattle.fd_sample.specs.Circuits.{HasTimes}
use Rattle.fd_sample.specs.Probes.{control_of}
use Rattle.fd_sample.specs.fd_capctl.CapState.{IsEarly}
use Rattle.fd_sample.specs.fd_queue.declared.entry.Entry.{Entry}
use Rattle.fd_settle.proofs.Lists.{all_or, each_append, each_filter}
use Rattle.std.proofs.lemmas.List.{get_or-map, length-map, length-take-le, take_more}

-- ---- the states

-- at the place of a control that has not reacted yet stands its state as it was
pub judged_at : (ss : List ControlState) (vs : List Decision) (k : ℕ) (d : ControlState) → length vs ≤ k
    → get_or (judged ss vs) k d ≡ get_or ss k d
judged_at [] vs k d l = refl
judged_at (s ∷ ss) [] k d l = refl
judged_at (s ∷ ss) (v ∷ vs) zero d l = absurd (omega arith)
judged_at (s ∷ ss) (v ∷ vs) (suc k) d l = judged_at ss vs k d (omega arith)

pub judged_length : (ss : List ControlState) (vs : List Decision) → length (judged ss vs) ≡ length ss
judged_length [] vs = refl
judged_length (s ∷ ss) [] = refl
judged_length (s ∷ ss) (v ∷ vs) = ap suc (judged_length ss vs)

pub judged_none : (ss : List ControlState) → judged ss [] ≡ ss
judged_none [] = refl
judged_none (s ∷ ss) = refl

pub judged_more : (ss : List ControlState) (vs : List Decision) (v : Decision) (d : ControlState)
    → length vs < length ss →
    set (judged ss vs) (length vs) (with_verdict v (get_or ss (length vs) d)) ≡ judged ss (vs ++ v ∷ [])
judged_more [] vs v d l = absurd (omega arith)
judged_more (s ∷ ss) [] v d l = ap (λ (xs : List ControlState). with_verdict v s ∷ xs) (sym (judged_none ss))
judged_more (s ∷ ss) (w ∷ vs) v d l = ap (λ (xs : List ControlState). with_verdict w s ∷ xs) (judged_more ss vs v d (omega arith))

-- ---- the machine

asked_by : (t : Bool) (m n : Machine) → m ≡ record m { queue = m.queue; next = m.next }
    → n ≡ record m { queue = n.queue; next = n.next } →
    cond t m n ≡ record m { queue = (cond t m n).queue; next = (cond t m n).next }
asked_by true m n h i = h
asked_by false m n h i = i

asked_alone : (c : Control) (k : ℕ) (o : Option Bool) (m : Machine) →
    asked c k o m ≡ record m { queue = (asked c k o m).queue; next = (asked c k o m).next }
asked_alone c k None m = refl
asked_alone c k (Some up) m = asked_by (has_entry k m.queue) m
    (record m { queue = queued (record { time = entry_time m k c up; seq = m.next; control = k; up = up }) m.queue; next = m.next + 1 }) refl refl

-- a reaction changes the queue alone
pub reacted_alone : (c : Control) (k : ℕ) (v : Decision) (m : Machine) →
    reacted c k v m ≡ record m { queue = (reacted c k v m).queue; next = (reacted c k v m).next }
reacted_alone c k v m = asked_alone c k (way_of v) (record m { queue = kept k v m.queue })

-- and so does a sampling
pub sampled_alone : (k : ℕ) (cs : List Control) (vs : List Decision) (m : Machine)
    → sampled k cs vs m ≡ record m { queue = (sampled k cs vs m).queue; next = (sampled k cs vs m).next }
sampled_alone k [] vs m = refl
sampled_alone k (c ∷ cs) [] m = refl
sampled_alone k (c ∷ cs) (v ∷ vs) m =
    let last = sampled (k + 1) cs vs (reacted c k v m) in
    sampled_alone (k + 1) cs vs (reacted c k v m)
    ∙ ap (λ (x : Machine). record x { queue = last.queue; next = last.next }) (reacted_alone c k v m)

shown_by : (m n : Machine) (q : QueueView) (now : ℕ) → n ≡ record m { queue = n.queue; next = n.next }
    → ShowsQueue n q now →
    n ≡ record m { queue = q.entries; next = q.next }
shown_by m n q now e h =
    let entries : n.queue ≡ q.entries = h.entries in
    let next : n.next ≡ q.next = h.next in
    e ∙ ap (λ (es : List Entry). record m { queue = es; next = n.next }) entries ∙ ap (λ (k : ℕ). record m { queue = q.entries; next = k }) next

pub sampled_none : (j : ℕ) (cs : List Control) (m : Machine) → sampled j cs [] m ≡ m
sampled_none j [] m = refl
sampled_none j (c ∷ cs) m = refl

-- the controls from number j on, one more
sampled_more : (j : ℕ) (cs : List Control) (vs : List Decision) (v : Decision) (c : Control) (m : Machine)
    → length vs < length cs →
    sampled j cs (vs ++ v ∷ []) m ≡ reacted (get_or cs (length vs) c) (j + length vs) v (sampled j cs vs m)
sampled_more j [] vs v c m l = absurd (omega arith)
sampled_more j (x ∷ cs) [] v c m l =
    let here : j + 0 ≡ j = omega arith in
    sampled_none (j + 1) cs (reacted x j v m) ∙ ap (λ (i : ℕ). reacted x i v m) (sym here)
sampled_more j (x ∷ cs) (w ∷ vs) v c m l =
    let next : j + 1 + length vs ≡ j + suc (length vs) = omega arith in
    sampled_more (j + 1) cs vs v c (reacted x j w m) (omega arith)
    ∙ ap (λ (i : ℕ). reacted (get_or cs (length vs) c) i v (sampled (j + 1) cs vs (reacted x j w m))) next

-- ---- one control

-- the control of a state, by its settings and by its probe
pub same_control : (opened : List (Option ℕ)) (k : ℕ) (s : ControlState) → IsStateOf opened k s
    → control_in s ≡ control_of (probe_in s)
same_control opened k (state.Regulator p s) h =
    let second = h.1.0 in let step = h.1.1.0 in let delay = h.1.1.1.0 in let tap_delay = h.1.1.1.1 in cc
same_control opened k (state.Bank p s) h =
    let delay = h.1.0 in let off = h.1.1.0 in let dead = h.1.1.1.0 in cc

pub same_number : (opened : List (Option ℕ)) (k : ℕ) (s : ControlState) → IsStateOf opened k s → number_in s ≡ k
same_number opened k (state.Regulator p s) h = h.0
same_number opened k (state.Bank p s) h = h.0

pub early_by : (opened : List (Option ℕ)) (k now : ℕ) (s : ControlState) → IsStateOf opened k s → HasTimes (probe_in s)
    → All IsEarly opened →
    now < 2 ^ 60 → HasEarlyTimes s now
early_by opened k now (state.Regulator p s) h t o l =
    (omega arith, omega (arith, h.1.1.1.0, t.0), omega (arith, h.1.1.1.1, t.1))
early_by opened k now (state.Bank p s) h t o l = record {
  start = omega arith;
  delay = omega (arith, h.1.0, t.0);
  delay_off = omega (arith, h.1.1.0, t.1.0);
  dead_time = omega (arith, h.1.1.1.0, t.1.1);
  opened = subst IsEarly (sym h.1.1.1.1) (all_or IsEarly opened p.bank None o tt);
}

-- what the machine shows of a control
shows_by : (at : Positions) (made : ℕ) (clock : Clock) (ss : List ControlState) (q : QueueView) (k : ℕ) (s : ControlState) →
    IsStateOf clock.opened.items k s → get_or (map moved_in ss) k None ≡ moved_in s → ShowsState (waiting at made clock ss q) s q clock.now
shows_by at made clock ss q k (state.Regulator p s) h m = record {
  queue = record { entries = refl; next = refl; now = refl };
  move = ap (λ (i : ℕ). get_or (map moved_in ss) i None) h.0 ∙ m;
}
shows_by at made clock ss q k (state.Bank p s) h m = record {
  queue = record { entries = refl; next = refl; now = refl };
  opened = sym h.1.1.1.1;
}

-- the machine after one reaction more
pub one_reacts : (at : Positions) (made : ℕ) (clock : Clock) (ss : List ControlState) (vs : List Decision) (v : Decision) (q q' : QueueView)
    (d : ControlState) → length vs < length ss → AreStates clock.opened.items ss →
    Reacts (get_or ss (length vs) d) q q' clock.now v →
    reacted (get_or (controls_of ss) (length vs) (control_in (get_or ss (length vs) d))) (length vs) v (waiting at made clock ss q)
    ≡ waiting at made clock ss q'
one_reacts at made clock ss vs v q q' d l are reacts =
    let k = length vs in
    let s = get_or ss k d in
    let h : IsStateOf clock.opened.items k s = are k d l in
    let moves : get_or (map moved_in ss) k None ≡ moved_in s = get_or-map moved_in ss k d None l in
    let fits : k < length (map probe_in ss) = rw length-map l in
    let control : get_or (controls_of ss) k (control_in s) ≡ control_in s =
    get_or-map control_of (map probe_in ss) k (probe_in s) (control_in s) fits
    ∙ ap control_of (get_or-map probe_in ss k d (probe_in s) l) ∙ sym (same_control clock.opened.items k s h) in
    let m = waiting at made clock ss q in
    let after : reacted (control_in s) (number_in s) v m ≡ waiting at made clock ss q' =
    shown_by m (reacted (control_in s) (number_in s) v m) q' clock.now (reacted_alone (control_in s) (number_in s) v m)
    (reacts m (shows_by at made clock ss q k s h moves)) in
    ap (λ (c : Control). reacted c k v m) control ∙ ap (λ (i : ℕ). reacted (control_in s) i v m) (sym (same_number clock.opened.items k s h)) ∙ after

-- the sampling of one control more
pub one_sampled : (at : Positions) (made : ℕ) (clock : Clock) (ss : List ControlState) (vs : List Decision) (v : Decision) (q₀ q q' : QueueView)
    (d : ControlState) → length vs < length ss → AreStates clock.opened.items ss →
    Reacts (get_or ss (length vs) d) q q' clock.now v →
    sampled 0 (controls_of ss) vs (waiting at made clock ss q₀) ≡ waiting at made clock ss q →
    sampled 0 (controls_of ss) (vs ++ v ∷ []) (waiting at made clock ss q₀) ≡ waiting at made clock ss q'
one_sampled at made clock ss vs v q₀ q q' d l are reacts so_far =
    let c = control_in (get_or ss (length vs) d) in
    let fits : length vs < length (controls_of ss) = omega (arith, length-map (map probe_in ss) control_of, length-map ss probe_in) in
    let from_first : 0 + length vs ≡ length vs = omega arith in
    sampled_more 0 (controls_of ss) vs v c (waiting at made clock ss q₀) fits
    ∙ ap (λ (i : ℕ). reacted (get_or (controls_of ss) (length vs) c) i v (sampled 0 (controls_of ss) vs (waiting at made clock ss q₀))) from_first
    ∙ ap (λ (m : Machine). reacted (get_or (controls_of ss) (length vs) c) (length vs) v m) so_far
    ∙ one_reacts at made clock ss vs v q q' d l are reacts

-- ---- the queue

abbrev never : Rule
never = record { is_due = λ now e. false; acts_at = λ now e. 0 }

none_due : (es : List Entry) → list_any (λ e. false) es ≡ false
none_due [] = refl
none_due (e ∷ es) = none_due es

quiet_by : (P : Machine → Type 0) (t : Bool) (m : Machine) (other : Step) → t ≡ false
    → Leaves P (cond (not t) (Quiet m) other) → P m
quiet_by P true m other e h = absurd (cc)
quiet_by P false m other e h = h

-- sampling keeps to the queue's rules
pub sampled_keeps : QueueLaw → (cs : List Control) (vs : List Decision) (m : Machine) → KeepsQueue (length cs) m →
    KeepsQueue (length cs) (sampled 0 cs vs m)
unfolding step_of
sampled_keeps law cs vs m h =
    let s : Setup = record { rule = never; controls = cs; limit = 0 } in
    quiet_by (KeepsQueue (length cs)) (list_any (λ e. false) (sampled 0 cs vs m).queue) (sampled 0 cs vs m) _
    (none_due (sampled 0 cs vs m).queue) (law s vs m h)

pub controls_length : (ss : List ControlState) → length (controls_of ss) ≡ length ss
controls_length ss = omega (arith, length-map (map probe_in ss) control_of, length-map ss probe_in)

pub waits_keeps : QueueLaw
    → (at : Positions) (made : ℕ) (clock : Clock) (ss : List ControlState) (vs : List Decision) (q₀ q : QueueView) →
    IsQueueOf (length ss) q₀.next q₀.entries →
    sampled 0 (controls_of ss) vs (waiting at made clock ss q₀) ≡ waiting at made clock ss q → IsQueueOf (length ss) q.next q.entries
waits_keeps law at made clock ss vs q₀ q h so_far =
    let n = controls_length ss in
    let before : IsQueueOf (length (controls_of ss)) q₀.next q₀.entries = subst (λ k. IsQueueOf k q₀.next q₀.entries) (sym n) h in
    let after = sampled_keeps law (controls_of ss) vs (waiting at made clock ss q₀) before in
    subst (λ k. IsQueueOf k q.next q.entries) n (subst (λ m. KeepsQueue (length (controls_of ss)) m) so_far after)

-- there is room for the entry of a control that has none
pub one_room : SpareLaw → (n k spare : ℕ) (q : QueueView) → IsQueueOf n q.next q.entries → k < n
    → n ≤ q.spare + length q.entries →
    has_entry k q.entries ≡ false → 0 < q.spare
one_room law n k spare q h l room none = omega (arith, law n q.next k q.entries h l none)

-- ---- entries that open a bank

-- of a control that goes down
LowTime : Machine → ℕ → Control → Type 0
LowTime m k c = entry_time m k c false < 2 ^ 62

-- what holds of each entry of a queue holds of those of a queue with an entry of which it holds
module _ (P : Entry → Type 0) where
  queued_each : (e : Entry) (es : List Entry) → P e → AllByRecursion P es → AllByRecursion P (queued e es)
  queued_each e es h k = each_append P (filter (λ x. nat_le x.time e.time) es) (e ∷ filter (λ x. nat_lt e.time x.time) es)
      (each_filter P (λ x. nat_le x.time e.time) es k) (h, each_filter P (λ x. nat_lt e.time x.time) es k)

  each_either : (t : Bool) (m n : Machine) → AllByRecursion P m.queue → AllByRecursion P n.queue → AllByRecursion P (cond t m n).queue
  each_either true m n h k = h
  each_either false m n h k = k

  asked_each : (c : Control) (k : ℕ) (o : Option Bool) (m : Machine) → ((up : Bool) → P (new_entry m k c up))
      → AllByRecursion P m.queue → AllByRecursion P (asked c k o m).queue
  asked_each c k None m new h = h
  asked_each c k (Some up) m new h =
      each_either (has_entry k m.queue) m (record m { queue = queued (new_entry m k c up) m.queue; next = m.next + 1 }) h
      (queued_each (new_entry m k c up) m.queue (new up) h)

  -- the entry that a control gets doesn't depend on the queue
  new_same : (c : Control) (k : ℕ) (m : Machine) (es : List Entry) (up : Bool) → P (new_entry m k c up)
      → P (new_entry (record m { queue = es }) k c up)
  new_same (Regulates r) k m es up h = h
  new_same (Switches b) k m es up h = h

  -- the entries after a reaction
  pub reacted_each : (c : Control) (k : ℕ) (v : Decision) (m : Machine) → ((up : Bool) → P (new_entry m k c up))
      → AllByRecursion P m.queue → AllByRecursion P (reacted c k v m).queue
  reacted_each c k v m new h =
      asked_each c k (way_of v) (record m { queue = kept k v m.queue }) (λ up. new_same c k m (kept k v m.queue) up (new up))
      (each_filter P (λ e. not (e.control == k) || is_way e.up (way_of v)) m.queue h)

entry_early : (m : Machine) (k : ℕ) (c : Control) (up : Bool) → LowTime m k c → OpensEarly (new_entry m k c up)
unfolding LowTime
entry_early m k c true h = λ e. absurd (cc)
entry_early m k c false h = λ e. h

pub time_by : (t : Bool) (now a b : ℕ) → now < 2 ^ 60 → a < 2 ^ 60 → b < 2 ^ 60 → now + cond t a b < 2 ^ 62
time_by true now a b h i j = omega arith
time_by false now a b h i j = omega arith

low_time : (p : Probe) (k : ℕ) (m : Machine) → HasTimes p → m.now < 2 ^ 60 → LowTime m k (control_of p)
unfolding LowTime
low_time (probe.Regulator p) k m h l = time_by (is_way false (get_or m.moves k None)) m.now p.tapdelay p.delay l h.1 h.0
low_time (probe.Bank p) k m h l = omega (arith, h.1.0)

pub one_opens : (at : Positions) (made : ℕ) (clock : Clock) (ss : List ControlState) (vs : List Decision) (v : Decision) (q q' : QueueView)
    (d : ControlState) → length vs < length ss → AreStates clock.opened.items ss → All HasTimes (map probe_in ss) → clock.now < 2 ^ 60 →
    Reacts (get_or ss (length vs) d) q q' clock.now v → AllByRecursion OpensEarly q.entries → AllByRecursion OpensEarly q'.entries
one_opens at made clock ss vs v q q' d l are times now reacts h =
    let k = length vs in
    let s = get_or ss k d in
    let c = get_or (controls_of ss) k (control_in s) in
    let m = waiting at made clock ss q in
    let fits : k < length (map probe_in ss) = rw length-map l in
    let p = get_or (map probe_in ss) k (probe_in s) in
    let is : c ≡ control_of p = get_or-map control_of (map probe_in ss) k (probe_in s) (control_in s) fits in
    let low : LowTime m k c = subst (λ (x : Control). LowTime m k x) (sym is) (low_time p k m (times k (probe_in s) fits) now) in
    let after : (reacted c k v m).queue ≡ q'.entries =
    ap (λ (n : Machine). n.queue) (one_reacts at made clock ss vs v q q' d l are reacts) in
    subst (AllByRecursion OpensEarly) after (reacted_each OpensEarly c k v m (λ up. entry_early m k c up low) h)

-- ---- the loop over the controls

-- the first k controls have reacted by these decisions, from this queue to that one
pub record IsReacting (clock : Clock) (ss : List ControlState) (vs : List Decision) (k : ℕ) (q₀ q : QueueView)
    (now : List ControlState) : Type 0 where
  pub states : now ≡ judged ss (take k vs)
  pub sampled : (at : Positions) (made : ℕ)
      → sampled 0 (controls_of ss) (take k vs) (waiting at made clock ss q₀) ≡ waiting at made clock ss q
  pub openings : AllByRecursion OpensEarly q.entries
  pub numbers : q.next ≤ q₀.next + k
  pub room : q.spare + length q.entries ≡ q₀.spare + length q₀.entries

pub none_reacted : (clock : Clock) (ss : List ControlState) (vs : List Decision) (q : QueueView)
    → AllByRecursion OpensEarly q.entries →
    IsReacting clock ss vs 0 q q ss
none_reacted clock ss vs q h = record {
  states = sym (judged_none ss);
  sampled = λ at made. sampled_none 0 (controls_of ss) (waiting at made clock ss q);
  openings = h;
  numbers = omega arith;
  room = refl;
}

-- the next control's state is as it was
pub next_same : (clock : Clock) (ss : List ControlState) (vs : List Decision) (k : ℕ) (q₀ q : QueueView) (now : List ControlState) (d : ControlState) →
    IsReacting clock ss vs k q₀ q now → k ≤ length vs → get_or now k d ≡ get_or ss k d
next_same clock ss vs k q₀ q now d h l =
    let n = length-take-le k vs l in
    ap (λ (xs : List ControlState). get_or xs k d) h.states ∙ judged_at ss (take k vs) k d (omega (arith, n))

pub next_reacted : (clock : Clock) (ss : List ControlState) (vs : List Decision) (k : ℕ) (q₀ q q' : QueueView) (now : List ControlState) (d new : ControlState)
    (e : Decision) → IsReacting clock ss vs k q₀ q now → k < length vs → length vs ≡ length ss → AreStates clock.opened.items ss →
    All HasTimes (map probe_in ss) → clock.now < 2 ^ 60 →
    new ≡ with_verdict (get_or vs k e) (get_or now k d) → Reacts (get_or now k d) q q' clock.now (get_or vs k e) →
    q'.next ≤ q.next + 1 → q'.spare + length q'.entries ≡ q.spare + length q.entries →
    IsReacting clock ss vs (k + 1) q₀ q' (set now k new)
next_reacted clock ss vs k q₀ q q' now d new e h l each are times early is reacts numbers room =
    let n : length (take k vs) ≡ k = length-take-le k vs (omega arith) in
    let v = get_or vs k e in
    let same = next_same clock ss vs k q₀ q now d h (omega arith) in
    let fits : length (take k vs) < length ss = omega (arith, n) in
    let more : take (k + 1) vs ≡ take k vs ++ v ∷ [] = take_more vs k e l in
    let here : Reacts (get_or ss (length (take k vs)) d) q q' clock.now v =
    subst (λ (s : ControlState). Reacts s q q' clock.now v) (same ∙ ap (λ i. get_or ss i d) (sym n)) reacts in
    let after : set (judged ss (take k vs)) k (with_verdict v (get_or ss k d)) ≡ judged ss (take k vs ++ v ∷ []) =
    subst (λ i. set (judged ss (take k vs)) i (with_verdict v (get_or ss i d)) ≡ judged ss (take k vs ++ v ∷ [])) n
    (judged_more ss (take k vs) v d fits) in
    record {
      states = ap (λ (xs : List ControlState). set xs k new) h.states
          ∙ ap (λ (s : ControlState). set (judged ss (take k vs)) k s) (is ∙ ap (with_verdict v) same) ∙ after ∙ ap (judged ss) (sym more);
      sampled = λ at made. ap (λ xs. sampled 0 (controls_of ss) xs (waiting at made clock ss q₀)) more
          ∙ one_sampled at made clock ss (take k vs) v q₀ q q' d fits are here (h.sampled at made);
      openings = one_opens (record { taps = []; closed = [] }) 0 clock ss (take k vs) v q q' d fits are times early here h.openings;
      numbers = omega (arith, numbers, h.numbers);
      room = room ∙ h.room;
    }

-- what the next reaction asks for
pub next_early : (clock : Clock) (ss : List ControlState) (vs : List Decision) (k : ℕ) (q₀ q : QueueView) (now : List ControlState) (d : ControlState) →
    IsReacting clock ss vs k q₀ q now → k < length vs → length vs ≡ length ss → AreStates clock.opened.items ss → All HasTimes (map probe_in ss) →
    All IsEarly clock.opened.items → clock.now < 2 ^ 60 → HasEarlyTimes (get_or now k d) clock.now
next_early clock ss vs k q₀ q now d h l each are times early before =
    let s = get_or ss k d in
    let there : k < length (map probe_in ss) = omega (arith, length-map ss probe_in) in
    let has : HasTimes (probe_in s) = subst HasTimes (get_or-map probe_in ss k d (probe_in s) (omega arith)) (times k (probe_in s) there) in
    subst (λ (x : ControlState). HasEarlyTimes x clock.now) (sym (next_same clock ss vs k q₀ q now d h (omega arith)))
    (early_by clock.opened.items k clock.now s (are k d (omega arith)) has early before)

pub next_room : QueueLaw → SpareLaw
    → (clock : Clock) (ss : List ControlState) (vs : List Decision) (k : ℕ) (q₀ q : QueueView) (now : List ControlState)
    (d : ControlState) → IsReacting clock ss vs k q₀ q now → k < length vs → length vs ≡ length ss → AreStates clock.opened.items ss →
    IsQueueOf (length ss) q₀.next q₀.entries → length ss ≤ q₀.spare + length q₀.entries → has_entry (number_in (get_or now k d)) q.entries ≡ false → 0 < q.spare
next_room law spare clock ss vs k q₀ q now d h l each are queue room none =
    let at : Positions = record { taps = []; closed = [] } in
    let keeps = waits_keeps law at 0 clock ss (take k vs) q₀ q queue (h.sampled at 0) in
    let number : number_in (get_or now k d) ≡ k =
    ap number_in (next_same clock ss vs k q₀ q now d h (omega arith)) ∙ same_number clock.opened.items k (get_or ss k d) (are k d (omega arith)) in
    one_room spare (length ss) k q.spare q keeps (omega arith) (omega (arith, room, h.room)) (ap (λ i. has_entry i q.entries) (sym number) ∙ none)
