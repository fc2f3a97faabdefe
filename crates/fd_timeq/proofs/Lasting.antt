-- An entry that isn't due, and whose control goes on wanting its way, stays in the queue.
use Rattle.std.proofs.Common.{◌≡◌, ◌∙◌, ◌⊎◌, inl, inr, ⊎_elim, ℕ, zero, suc, ◌+◌, ◌<◌, ◌≤◌, Bool, true, false, cond, not, List, [], ◌∷◌, ◌++◌, length, get_or, Option, Some, None, refl, ap, subst, arith, All}
use Rattle.std.specs.Prelude.{◌==◌, ◌||◌, nat_le, nat_lt, slice_index_or, Contains}
use Rattle.std.specs.List.{AllByRecursion, filter, fold, list_any}
use Rattle.std.proofs.lemmas.Bool.Decides.{nat_tests}
use Rattle.fd_daily.specs.dss_ready.Ready.{HasPassed}
use Rattle.fd_daily.specs.fd_settings.dss_circuit.Circuit.{CircuitView}
use Rattle.fd_daily.specs.fd_settings.dss_circuit.InRange.{AllInRange}
use Rattle.fd_daily.specs.fd_settings.dss_circuit.WellFormed.{IsEntry}
use Rattle.fd_daily.specs.fd_settings.Hours.{hour_powers}
use Rattle.fd_daily.specs.fd_enclosure.Sound.{Claim}
use Rattle.fd_daily.specs.fd_queue.Controls.{Control, Positions, Regulates, Switches}
use Rattle.fd_daily.specs.fd_queue.Decisions.{Decision, Hold, is_way, way_of}
use Rattle.fd_daily.specs.fd_queue.Machine.{Act, AtLimit, Acts, Machine, Quiet, Rule, Setup, Step, acts_of, all_acted, asked, clock_rule, due_step, kept, moved, moved_by, new_entry, no_control, reacted, sampled, step_of}
use Rattle.fd_daily.specs.fd_queue.MachineLaws.{Leaves}
use Rattle.fd_daily.specs.fd_queue.Queue.{InPairs, IsBefore, has_entry, later, least_time, nearest, queued}
use Rattle.fd_daily.specs.fd_queue.declared.entry.Entry.{Entry}
use Rattle.fd_daily.specs.fd_settle.Kept.{IsMachineOf, KeptLaw}
use Rattle.fd_daily.specs.fd_settle.Laws.{ThenAgree}
use Rattle.fd_daily.specs.fd_settle.Plant.{Plant}
use Rattle.fd_daily.specs.fd_settle.Rounds.{after_round, left_by}
use Rattle.fd_daily.specs.fd_settle.Sampling.{Sampling, Decided, Unclear}
use Rattle.fd_daily.specs.fd_settle.Settle.{before_rest, outcome_after, outcome_of, settle_of}
use Rattle.fd_daily.specs.Hours.{time_of}
use Rattle.fd_timeq.specs.Laws.{LastsLaw}
use Rattle.fd_timeq.specs.Timed.{IsInTimeMode, carried, timed_plant, timed_setup}
use Rattle.fd_timeq.specs.Waiting.{GoesOnWanting, WantsStill}
use Rattle.fd_timeq.proofs.Timing.{plant_there}

-- ---- an entry of a list

abbrev Stands : Entry → List Entry → Type 0
Stands e [] = ⊥
Stands e (x ∷ xs) = (x ≡ e) ⊎ Stands e xs

stands_at : (e : Entry) (es : List Entry) (k : ℕ) → k < length es → slice_index_or es k e ≡ e → Stands e es
stands_at e [] k l h = absurd (omega arith)
stands_at e (x ∷ xs) zero l h = inl h
stands_at e (x ∷ xs) (suc k) l h = inr (stands_at e xs k (omega arith) h)

behind_one : (e x : Entry) (xs : List Entry) → Contains xs e → Contains (x ∷ xs) e
behind_one e x xs h = (suc h.0, omega (arith, h.1), h.2)

contained : (e : Entry) (es : List Entry) → Stands e es → Contains es e
contained e [] h = absurd h
contained e (x ∷ xs) h = ⊎_elim (λ same. (0, omega arith, same)) (λ more. behind_one e x xs (contained e xs more)) h

own_test : (t : Bool) (e x : Entry) (fs : List Entry) → t ≡ true → x ≡ e → Stands e (cond t (x ∷ fs) fs)
own_test true e x fs h same = inl same
own_test false e x fs h same = absurd (cc)

other_test : (t : Bool) (e x : Entry) (fs : List Entry) → Stands e fs → Stands e (cond t (x ∷ fs) fs)
other_test true e x fs h = inr h
other_test false e x fs h = h

stands_filter : (e : Entry) (p : Entry → Bool) (es : List Entry) → p e ≡ true → Stands e es → Stands e (filter p es)
stands_filter e p [] h s = s
stands_filter e p (x ∷ xs) h s =
    ⊎_elim (λ same. own_test (p x) e x (filter p xs) (ap p same ∙ h) same)
    (λ more. other_test (p x) e x (filter p xs) (stands_filter e p xs h more)) s

stands_front : (e : Entry) (xs ys : List Entry) → Stands e xs → Stands e (xs ++ ys)
stands_front e [] ys h = absurd h
stands_front e (x ∷ xs) ys h = ⊎_elim (λ same. inl same) (λ more. inr (stands_front e xs ys more)) h

stands_back : (e : Entry) (xs ys : List Entry) → Stands e ys → Stands e (xs ++ ys)
stands_back e [] ys h = h
stands_back e (x ∷ xs) ys h = inr (stands_back e xs ys h)

flipped : (a b : ℕ) → nat_le a b ≡ false → nat_lt b a ≡ true
flipped a b h = grind (arith, nat_tests)

stands_queued : (e n : Entry) (es : List Entry) → Stands e es → Stands e (queued n es)
stands_queued e n es h = by (nat_le e.time n.time) refl
  where
    by : (t : Bool) → nat_le e.time n.time ≡ t → Stands e (queued n es)
    by true is = stands_front e (filter (λ x. nat_le x.time n.time) es) (n ∷ filter (λ x. nat_lt n.time x.time) es)
        (stands_filter e (λ x. nat_le x.time n.time) es is h)
    by false is = stands_back e (filter (λ x. nat_le x.time n.time) es) (n ∷ filter (λ x. nat_lt n.time x.time) es)
        (inr (stands_filter e (λ x. nat_lt n.time x.time) es (flipped e.time n.time is) h))

-- ---- a sampling

-- the entry stands in the queue of a machine at this time
record Waits (e : Entry) (now : ℕ) (m : Machine) : Type 0 where
  stands : Stands e m.queue
  time : m.now ≡ now

module _ (e : Entry) (now : ℕ) where
  either_waits : (t : Bool) (m n : Machine) → Waits e now m → Waits e now n → Waits e now (cond t m n)
  either_waits true m n h k = h
  either_waits false m n h k = k

  asked_waits : (c : Control) (k : ℕ) (o : Option Bool) (m : Machine) → Waits e now m → Waits e now (asked c k o m)
  asked_waits c k None m h = h
  asked_waits c k (Some up) m h =
      either_waits (has_entry k m.queue) m (record m { queue = queued (new_entry m k c up) m.queue; next = m.next + 1 }) h
      (record { stands = stands_queued e (new_entry m k c up) m.queue h.stands; time = h.time })

  own_way : (up : Bool) → is_way up (Some up) ≡ true
  own_way true = refl
  own_way false = refl

  same_number : (a b : ℕ) → (a == b) ≡ true → a ≡ b
  same_number a b h = grind (arith, nat_tests)

  left_true : (t u : Bool) → t ≡ false → (not t || u) ≡ true
  left_true true u h = absurd (cc)
  left_true false u h = refl

  right_true : (t u : Bool) → u ≡ true → (not t || u) ≡ true
  right_true true u h = h
  right_true false u h = refl

  stays : (k : ℕ) (v : Decision) → (e.control ≡ k → way_of v ≡ Some e.up)
      → (not (e.control == k) || is_way e.up (way_of v)) ≡ true
  stays k v wants = by (e.control == k) refl
    where
      by : (t : Bool) → (e.control == k) ≡ t → (not (e.control == k) || is_way e.up (way_of v)) ≡ true
      by true is = right_true (e.control == k) (is_way e.up (way_of v))
          (ap (is_way e.up) (wants (same_number e.control k is)) ∙ own_way e.up)
      by false is = left_true (e.control == k) (is_way e.up (way_of v)) is

  reacted_waits : (c : Control) (k : ℕ) (v : Decision) (m : Machine) → (e.control ≡ k → way_of v ≡ Some e.up)
      → Waits e now m → Waits e now (reacted c k v m)
  reacted_waits c k v m wants h = asked_waits c k (way_of v) (record m { queue = kept k v m.queue }) (record {
    stands = stands_filter e (λ x. not (x.control == k) || is_way x.up (way_of v)) m.queue (stays k v wants) h.stands;
    time = h.time;
  })

  sampled_waits : (k : ℕ) (cs : List Control) (vs : List Decision) (m : Machine)
      → ((j : ℕ) → e.control ≡ k + j → way_of (get_or vs j Hold) ≡ Some e.up) → Waits e now m
      → Waits e now (sampled k cs vs m)
  sampled_waits k [] vs m wants h = h
  sampled_waits k (c ∷ cs) [] m wants h = h
  sampled_waits k (c ∷ cs) (v ∷ vs) m wants h =
      sampled_waits (k + 1) cs vs (reacted c k v m) (λ j same. wants (suc j) (omega (arith, same)))
      (reacted_waits c k v m (λ same. wants 0 (omega (arith, same))) h)

  -- ---- acts of others

  moved_waits : (rule : Rule) (c : Control) (v : Decision) (m : Machine) (x : Entry) → Waits e now m
      → Waits e now (moved_by rule c v m x)
  moved_waits rule (Regulates r) v m x h = record { stands = h.stands; time = h.time }
  moved_waits rule (Switches b) v m x h = record { stands = h.stands; time = h.time }

  all_moved : (s : Setup) (vs : List Decision) (m : Machine) (es : List Entry) → Waits e now m
      → Waits e now (fold (moved s vs) m es)
  all_moved s vs m [] h = h
  all_moved s vs m (x ∷ xs) h =
      all_moved s vs (moved s vs m x) xs
      (moved_waits s.rule (get_or s.controls x.control no_control) (get_or vs x.control Hold) m x h)

-- ---- where an entry is due, the first is

either_true : (t u : Bool) → (t || u) ≡ true → (t ≡ true) ⊎ (u ≡ true)
either_true true u h = inl refl
either_true false u h = inr h

by_time : (a b : ℕ) → nat_le a b ≡ true → a ≤ b
by_time a b h = grind (arith, nat_tests)

no_later : (x y : Entry) → IsBefore x y → x.time ≤ y.time
no_later x y h = ⊎_elim (λ less. omega (arith, less)) (λ same. omega (arith, same.0)) h

one_due : (now : ℕ) (x : Entry) (es : List Entry) → AllByRecursion (IsBefore x) es
    → list_any (λ y. nat_le y.time now) es ≡ true → x.time ≤ now
one_due now x [] h any = absurd (cc)
one_due now x (y ∷ ys) h any =
    ⊎_elim (λ here. omega (arith, by_time y.time now here, no_later x y h.0)) (λ more. one_due now x ys h.1 more)
    (either_true (nat_le y.time now) (list_any (λ z. nat_le z.time now) ys) any)

first_due : (now : ℕ) (es : List Entry) → InPairs IsBefore es → list_any (λ y. nat_le y.time now) es ≡ true
    → least_time es ≤ now
first_due now [] h any = absurd (cc)
first_due now (x ∷ xs) h any =
    ⊎_elim (λ here. by_time x.time now here) (λ more. one_due now x xs h.0 more)
    (either_true (nat_le x.time now) (list_any (λ z. nat_le z.time now) xs) any)

not_least : (a b now : ℕ) → b ≤ now → now < a → not (a == b) ≡ true
not_least a b now h l = grind (arith, nat_tests)

-- ---- a step

module _ (cs : List Control) (limit : ℕ) (e : Entry) (now : ℕ) (early : now < e.time) where
  by_tests : (t u : Bool) (n after : Machine) (acts : List Act) → Waits e now n → (t ≡ true → Waits e now after)
      → Leaves (Waits e now) (cond (not t) (Quiet n) (cond u (AtLimit n) (Acts after acts)))
  by_tests false u n after acts h k = h
  by_tests true true n after acts h k = h
  by_tests true false n after acts h k = k refl

  due_waits : (ds : List Decision) (n : Machine) → InPairs IsBefore n.queue → Waits e now n
      → Leaves (Waits e now) (due_step (record { rule = clock_rule; controls = cs; limit = limit }) ds n)
  due_waits ds n sorted h =
      let s : Setup = record { rule = clock_rule; controls = cs; limit = limit } in
      by_tests (list_any (λ y. nat_le y.time n.now) n.queue) (nat_le limit n.made) n (all_acted s ds n) (acts_of s ds n (nearest n.queue)) h
      (λ any.
      let least : least_time n.queue ≤ now = omega (arith, first_due n.now n.queue sorted any, h.time) in
      let w : Waits e now (fold (moved s ds) (record n { queue = later n.queue }) (nearest n.queue)) =
      all_moved e now s ds (record n { queue = later n.queue }) (nearest n.queue) (record {
        stands = stands_filter e (λ x. not (x.time == least_time n.queue)) n.queue (not_least e.time (least_time n.queue) now least early) h.stands;
        time = h.time;
      }) in
      record { stands = w.stands; time = w.time })

  step_waits : (ds : List Decision) (m : Machine) → way_of (get_or ds e.control Hold) ≡ Some e.up
      → InPairs IsBefore (sampled 0 cs ds m).queue → Waits e now m
      → Leaves (Waits e now) (step_of (record { rule = clock_rule; controls = cs; limit = limit }) ds m)
  unfolding step_of
  step_waits ds m wants sorted h =
      due_waits ds (sampled 0 cs ds m) sorted (sampled_waits e now 0 cs ds m (λ j same.
      let is : e.control ≡ j = omega (arith, same) in
      subst (λ (i : ℕ). way_of (get_or ds i Hold) ≡ Some e.up) is wants) h)

-- ---- a settle

module _ {X : Type 0} (cs : List Control) (limit : ℕ) (look : Positions → X → Sampling) (P : Machine → Type 0)
    (after : (m : Machine) (x : X) → P m
    → P (left_by (outcome_of (record { rule = clock_rule; controls = cs; limit = limit }) m (look m.at x))))
    (sorted : (m : Machine) (x : X) (ds : List Decision) → P m → look m.at x ≡ Decided ds
    → InPairs IsBefore (sampled 0 cs ds m).queue)
    (e : Entry) (now : ℕ) (early : now < e.time) where
  abbrev by_clock : Setup
  by_clock = record { rule = clock_rule; controls = cs; limit = limit }

  abbrev RestWaits : List X → Type 0
  RestWaits xs = (n : Machine) → P n → Waits e now n → GoesOnWanting e by_clock look n xs
      → Stands e (settle_of by_clock look n xs).machine.queue

  settle_waits : (m : Machine) (xs : List X) → P m → Waits e now m → GoesOnWanting e by_clock look m xs
      → Stands e (settle_of by_clock look m xs).machine.queue
  settle_waits m [] p h wants = h.stands
  settle_waits m (x ∷ xs) p h wants =
      by (look m.at x) refl wants.0 wants.1 (after m x p) (λ n q w more. settle_waits n xs q w more)
    where
      go : (step : Step) → Leaves (Waits e now) step → ThenAgree (outcome_after step) (λ n. GoesOnWanting e by_clock look n xs)
          → P (left_by (outcome_after step)) → RestWaits xs
          → Stands e (before_rest (outcome_after step) (λ n. settle_of by_clock look n xs)).machine.queue
      go (Quiet n) w more q rest = w.stands
      go (AtLimit n) w more q rest = w.stands
      go (Acts n acts) w more q rest = rest n q w more

      by : (w : Sampling) → look m.at x ≡ w → WantsStill e w
          → ThenAgree (outcome_of by_clock m w) (λ n. GoesOnWanting e by_clock look n xs)
          → P (left_by (outcome_of by_clock m w)) → RestWaits xs
          → Stands e (before_rest (outcome_of by_clock m w) (λ n. settle_of by_clock look n xs)).machine.queue
      by (Unclear k u) same want more q rest = h.stands
      by (Decided ds) same want more q rest =
          go (step_of by_clock ds m) (step_waits cs limit e now early ds m want (sorted m x ds p same) h) more q rest

-- ---- of a circuit

-- a step that may make no act leaves what the sampling left
none_made : (t u : Bool) (n after : Machine) (acts : List Act) → u ≡ true
    → left_by (outcome_after (cond (not t) (Quiet n) (cond u (AtLimit n) (Acts after acts)))) ≡ n
none_made false u n after acts h = refl
none_made true true n after acts h = refl
none_made true false n after acts h = absurd (cc)

no_limit : (made : ℕ) → nat_le 0 made ≡ true
no_limit made = grind (arith, nat_tests)

only_sampled : (cs : List Control) (ds : List Decision) (m : Machine)
    → left_by (outcome_after (step_of (record { rule = clock_rule; controls = cs; limit = 0 }) ds m)) ≡ sampled 0 cs ds m
unfolding step_of
only_sampled cs ds m =
    let n : Machine = sampled 0 cs ds m in
    let s : Setup = record { rule = clock_rule; controls = cs; limit = 0 } in
    none_made (list_any (λ y. nat_le y.time n.now) n.queue) (nat_le 0 n.made) n (all_acted s ds n) (acts_of s ds n (nearest n.queue)) (no_limit n.made)

module _ (law : KeptLaw) (c : CircuitView) (hour : ℕ) (time : IsInTimeMode c) (passed : HasPassed c) (ranges : AllInRange c.elements)
    (entries : All IsEntry c.elements) where
  kept_there : (m : Machine) (y : Claim) → IsMachineOf c (hour_powers c.elements hour) m
      → IsMachineOf c (hour_powers c.elements hour) (after_round (timed_plant c hour) m y)
  kept_there m y h =
      subst (λ (p : Plant). IsMachineOf c (hour_powers c.elements hour) (after_round p m y)) (plant_there c time hour)
      (law c (hour_powers c.elements hour) m y passed ranges entries h)

  abbrev without_acts : CircuitView
  without_acts = record c { options = record c.options { maxcontroliter = 0 } }

  sorted_there : (m : Machine) (y : Claim) (ds : List Decision) → IsMachineOf c (hour_powers c.elements hour) m
      → (timed_plant c hour).look m.at y ≡ Decided ds → InPairs IsBefore (sampled 0 (timed_setup c).controls ds m).queue
  sorted_there m y ds h same =
      let passes : HasPassed without_acts = record { no_own = passed.no_own; not_many = passed.not_many; all_fed = passed.all_fed } in
      let machine : IsMachineOf without_acts (hour_powers c.elements hour) m = record {
        positions = record { counts = h.positions.counts; taps = h.positions.taps };
        queue = h.queue;
      } in
      let after : IsMachineOf without_acts (hour_powers c.elements hour) (after_round (timed_plant without_acts hour) m y) =
      subst (λ (p : Plant). IsMachineOf without_acts (hour_powers c.elements hour) (after_round p m y)) (plant_there without_acts time hour)
      (law without_acts (hour_powers c.elements hour) m y passes ranges entries machine) in
      let decided : IsMachineOf without_acts (hour_powers c.elements hour) (left_by (outcome_of (timed_setup without_acts) m (Decided ds))) =
      subst (λ (w : Sampling). IsMachineOf without_acts (hour_powers c.elements hour) (left_by (outcome_of (timed_setup without_acts) m w))) same after in
      subst (λ (n : Machine). InPairs IsBefore n.queue) (only_sampled (timed_setup c).controls ds m) decided.queue.queue.sorted

pub lasting : KeptLaw → LastsLaw
lasting law c hour m claims e time passed ranges entries is has early wants =
    contained e (settle_of (timed_setup c) (timed_plant c hour).look (carried hour m) claims).machine.queue
    (settle_waits (timed_setup c).controls c.options.maxcontroliter (timed_plant c hour).look
    (IsMachineOf c (hour_powers c.elements hour))
    (kept_there law c hour time passed ranges entries) (sorted_there law c hour time passed ranges entries) e (time_of hour) early
    (carried hour m) claims
    (record { positions = is.positions; queue = is.queue })
    (record { stands = stands_at e m.queue has.0 has.1 has.2; time = refl }) wants)
