-- What the rounds of a settle keep where its states are computed: besides positions and a queue of the circuit's
-- controls, opening times that are early, and modest numbers of acts.
use Rattle.std.proofs.Common.{◌≡◌, ◌∙◌, ℕ, ◌+◌, ◌<◌, ◌≤◌, Bool, true, false, cond, not, List, [], ◌∷◌, map, length, get_or, set, Option, Some, None, Result, refl, sym, ap, subst, arith}
use Rattle.std.specs.Prelude.{All, ◌^◌, ◌==◌, nat_le, replicate, unsigned_abs}
use Rattle.std.specs.List.{AllByRecursion, fold, list_any}
use Rattle.std.proofs.lemmas.Int.{ints}
use Rattle.std.proofs.lemmas.List.{length-map, length-set}
use Rattle.std.proofs.lemmas.List.Elements.{All-head, All-replicate, All-set, All-tail}
use Rattle.fd_inject.specs.fd_exact.Sums.{list_n}
use Rattle.fd_sample.specs.dss_model.declared.words.ControlMode.{ControlMode}
use Rattle.fd_sample.specs.dss_model.declared.words.ControlMode.TheVariants as control_mode
use Rattle.fd_sample.specs.dss_circuit.Circuit.{CircuitView}
use Rattle.fd_sample.specs.dss_layout.Layout.{layout_of, size_of}
use Rattle.fd_sample.specs.fd_capctl.BankLaws.{AwayLaw}
use Rattle.fd_sample.specs.fd_capctl.CapState.{IsEarly}
use Rattle.fd_sample.specs.fd_devices.Settings.{bank_count}
use Rattle.fd_sample.specs.fd_elements.declared.powers.LoadPower.{LoadPower}
use Rattle.fd_cert.specs.fd_enclosure.Sound.{Claim}
use Rattle.fd_sample.specs.fd_queue.Controls.{Control, Positions, Regulates, Switches, is_closed, pair_at, tap_of}
use Rattle.fd_sample.specs.fd_queue.Decisions.{Decision, Hold, steps_of, way_of}
use Rattle.fd_sample.specs.fd_queue.Machine.{Act, Acts, AtLimit, Machine, Quiet, acts_of, after_opening, all_acted, hour_begun, moved, moved_by, new_entry, no_control, reacted, rule_of, sampled, signed_steps, step_of}
use Rattle.fd_sample.specs.fd_queue.MachineLaws.{KeepsQueue, OwnLaw, QueueLaw}
use Rattle.fd_sample.specs.fd_queue.Queue.{later, least_time, nearest}
use Rattle.fd_sample.specs.fd_queue.declared.entry.Entry.{Entry}
use Rattle.fd_sample.specs.fd_queue.declared.timing.Timing.{Timing}
use Rattle.fd_sample.specs.fd_queue.declared.timing.Timing.TheVariants as timing
use Rattle.fd_sample.specs.fd_regctl.RegulatorLaws.{TapLaw}
use Rattle.fd_sample.specs.Banks.{bank_of}
use Rattle.fd_sample.specs.Circuits.{HasTimes, probes_of}
use Rattle.fd_sample.specs.Decided.{Undecided, sample_over}
use Rattle.fd_sample.specs.Probes.{IsProbe, control_of, switch_of}
use Rattle.fd_sample.specs.Regulators.{settings_of}
use Rattle.fd_sample.specs.declared.probe.Probe.{Probe}
use Rattle.fd_sample.specs.declared.probe.Probe.TheVariants as probe
use Rattle.fd_sample.proofs.CallerLemmas.{probes_kept}
use Rattle.fd_settle.specs.Computed.{Answering, Ending, Follows, IsComputedFrom, ended, range, stopped}
use Rattle.fd_settle.specs.Controls.{OpensEarly}
use Rattle.fd_settle.specs.Kept.{IsMachineOf, KeptLaw}
use Rattle.fd_settle.specs.KeptRounds.{CanStart, IsTimely, KeptRoundsLaw}
use Rattle.fd_settle.specs.Numbers.{AreActNumbers}
use Rattle.fd_settle.specs.Plant.{controls_in, plant_of, setup_of, started, taking_part, timing_of}
use Rattle.fd_settle.specs.Rounds.{AtEach, left_by}
use Rattle.fd_settle.specs.Sampling.{Decided, Sampling, Unclear, look_over}
use Rattle.fd_settle.specs.Settle.{Ends, Moves, Outcome, outcome_after, outcome_of}
use Rattle.fd_settle.specs.Start.{ArePositions}
use Rattle.fd_settle.proofs.Fitting.{Wants, decided_each, few_steps, stays_within}
use Rattle.fd_settle.proofs.Going as going
use Rattle.fd_settle.proofs.Acts.{acts_early}
use Rattle.fd_settle.proofs.Keeping.{all_taken, some_probe, wants_each}
use Rattle.fd_settle.proofs.Lists.{all_or, each_both, each_filter, each_weaker}
use Rattle.fd_settle.proofs.Reactions.{reacted_alone, reacted_each, sampled_alone, sampled_keeps, time_by}

-- no bank has opened yet
pub none_early : (n : ℕ) → All IsEarly (replicate n None)
none_early n = All-replicate IsEarly n None tt

-- ---- the entries of a queue

after_early : (time dead : ℕ) (o : Option ℕ) → time < 2 ^ 61 → dead < 2 ^ 60 → IsEarly o → after_opening time dead o < 2 ^ 63
after_early time dead None h d o = omega (arith, h)
after_early time dead (Some opened) h d o = omega (arith, h, d, o)

-- the entry that a control gets
timely : (p : Probe) (k : ℕ) (m : Machine) → HasTimes p → m.now < 2 ^ 60 → All IsEarly m.opened → (up : Bool)
    → IsTimely (new_entry m k (control_of p) up)
timely (probe.Regulator p) k m h now early up =
    let low = time_by _ m.now p.tapdelay p.delay now h.1 h.0 in (omega (arith, low), λ e. low)
timely (probe.Bank p) k m h now early true =
    (after_early (m.now + p.delay) p.deadtime _ (omega (arith, now, h.0)) h.1.1 (all_or IsEarly m.opened p.bank None early tt), λ e. absurd (cc))
timely (probe.Bank p) k m h now early false =
    let low : m.now + p.delayoff < 2 ^ 62 = omega (arith, now, h.1.0) in (omega (arith, low), λ e. low)

sampled_timely : (ps : List Probe) (k : ℕ) (vs : List Decision) (m : Machine) → All HasTimes ps → m.now < 2 ^ 60
    → All IsEarly m.opened → AllByRecursion IsTimely m.queue
    → AllByRecursion IsTimely (sampled k (map control_of ps) vs m).queue
sampled_timely [] k vs m times now early h = h
sampled_timely (p ∷ ps) k [] m times now early h = h
sampled_timely (p ∷ ps) k (v ∷ vs) m times now early h =
    let n = reacted (control_of p) k v m in
    let alone = reacted_alone (control_of p) k v m in
    sampled_timely ps (k + 1) vs n (All-tail HasTimes p ps times)
    (subst (λ (x : Machine). x.now < 2 ^ 60) (sym alone) now)
    (subst (λ (x : Machine). All IsEarly x.opened) (sym alone) early)
    (reacted_each IsTimely (control_of p) k v m (timely p k m (All-head HasTimes p ps times) now early) h)

-- ---- the opening times behind acts

opened_by : (up : Bool) (time bank : ℕ) (opened : List (Option ℕ)) → (up ≡ false → time < 2 ^ 62) → All IsEarly opened
    → (length (cond up opened (set opened bank (Some time))) ≡ length opened)
    × All IsEarly (cond up opened (set opened bank (Some time)))
opened_by true time bank opened soon h = (refl, h)
opened_by false time bank opened soon h = (length-set opened bank (Some time), All-set IsEarly opened bank (Some time) (soon refl) h)

-- what acts leave beside positions
record Stays (m n : Machine) : Type 0 where
  now : n.now ≡ m.now
  queue : n.queue ≡ m.queue
  each : length n.opened ≡ length m.opened
  early : All IsEarly n.opened

moved_stays : (timing : Timing) (c : Control) (v : Decision) (m : Machine) (e : Entry)
    → (e.up ≡ false → (rule_of timing).acts_at m.now e < 2 ^ 62) → All IsEarly m.opened
    → Stays m (moved_by (rule_of timing) c v m e)
moved_stays timing (Regulates r) v m e soon h = record { now = refl; queue = refl; each = refl; early = h }
moved_stays timing (Switches b) v m e soon h =
    let after = opened_by e.up ((rule_of timing).acts_at m.now e) b.bank m.opened soon h in
    record { now = refl; queue = refl; each = after.0; early = after.1 }

module _ (timing : Timing) (cs : List Control) (limit : ℕ) (vs : List Decision) where
  all_stay : (es : List Entry) (m : Machine) → m.now < 2 ^ 62 → AllByRecursion OpensEarly es → All IsEarly m.opened
      → Stays m (fold (moved (record { rule = rule_of timing; controls = cs; limit = limit }) vs) m es)
  all_stay [] m now soon h = record { now = refl; queue = refl; each = refl; early = h }
  all_stay (e ∷ es) m now soon h =
      let n = moved (record { rule = rule_of timing; controls = cs; limit = limit }) vs m e in
      let first = moved_stays timing (get_or cs e.control no_control) (get_or vs e.control Hold) m e
      (acts_early timing m.now e now soon.0) h in
      let rest = all_stay es n (omega (arith, first.now, now)) soon.1 first.early in
      record {
        now = rest.now ∙ first.now;
        queue = rest.queue ∙ first.queue;
        each = rest.each ∙ first.each;
        early = rest.early;
      }

-- ---- the numbers of acts

abbrev HasNumbers : Act → Type 0
HasNumbers a = AreActNumbers a.time a.control a.steps

record IsModestEntry (vs : List Decision) (e : Entry) : Type 0 where
  time : e.time < 2 ^ 64
  control : e.control < 2 ^ 32
  steps : steps_of (get_or vs e.control Hold) ≤ 1000

signed_few : (up : Bool) (n : ℕ) → n ≤ 1000 → unsigned_abs (signed_steps up n) < 2 ^ 32
signed_few true n h = omega (arith, ints, h)
signed_few false n h = omega (arith, ints, h)

-- an act doesn't change the time of the machine
same_now : (timing : Timing) (c : Control) (v : Decision) (m : Machine) (e : Entry)
    → (moved_by (rule_of timing) c v m e).now ≡ m.now
same_now timing (Regulates r) v m e = refl
same_now timing (Switches b) v m e = refl

modest_time : (timing : Timing) (now : ℕ) (e : Entry) → now < 2 ^ 64 → e.time < 2 ^ 64
    → (rule_of timing).acts_at now e < 2 ^ 64
modest_time timing.Static now e h k = k
modest_time timing.Clock now e h k = h

act_numbers : (timing : Timing) (cs : List Control) (limit : ℕ) (vs : List Decision) (m : Machine) (es : List Entry)
    → m.now < 2 ^ 64 → AllByRecursion (IsModestEntry vs) es
    → AllByRecursion HasNumbers (acts_of (record { rule = rule_of timing; controls = cs; limit = limit }) vs m es)
act_numbers timing cs limit vs m [] now h = tt
act_numbers timing cs limit vs m (e ∷ es) now h = (
  record { time = modest_time timing m.now e now h.0.time; control = h.0.control; steps = signed_few e.up (steps_of (get_or vs e.control Hold)) h.0.steps },
  act_numbers timing cs limit vs (moved (record { rule = rule_of timing; controls = cs; limit = limit }) vs m e) es
      (subst (λ (t : ℕ). t < 2 ^ 64) (sym (same_now timing (get_or cs e.control no_control) (get_or vs e.control Hold) m e)) now) h.1,
)

-- a control that wants to move moves few steps
wants_few : TapLaw → AwayLaw → (n : ℕ) (p : Probe) (at : Positions) (d : Decision) (up : Bool) → IsProbe n p → Wants p at d
    → way_of d ≡ Some up → steps_of d ≤ 1000
wants_few taps away n (probe.Regulator p) at d up is wants way =
    few_steps (settings_of p) (tap_of p.is_second (pair_at at p.transformer)) d (stays_within taps p at d wants) is.settings.most
wants_few taps away n (probe.Bank p) at d up is wants way =
    let one = (away (bank_of p) (is_closed at (switch_of p)) wants.quantity).one_step up (ap way_of wants.wants ∙ way) in
    omega (arith, one, ap steps_of wants.wants)

-- ---- a machine of a circuit's controls

record IsRunning (c : CircuitView) (m : Machine) : Type 0 where
  now : m.now < 2 ^ 60
  each : length m.opened ≡ list_n (λ e. bank_count e.1) c.elements
  early : All IsEarly m.opened
  timely : AllByRecursion IsTimely m.queue

-- what a round leaves, and the numbers of its acts
record IsRound (c : CircuitView) (o : Outcome) : Type 0 where
  left : IsRunning c (left_by o)
  acts : AllByRecursion HasNumbers (going.acts_of o)

module _ (queue_law : QueueLaw) (own_law : OwnLaw) (tap_law : TapLaw) (away_law : AwayLaw) (c : CircuitView)
    (places : All (IsProbe (size_of (layout_of c.elements))) (controls_in c)) (times : All HasTimes (controls_in c))
    (many : length (controls_in c) < 2 ^ 32) where
  abbrev ps : List Probe
  ps = controls_in c

  abbrev cs : List Control
  cs = map control_of ps

  abbrev timing' : Timing
  timing' = timing_of c.options.controlmode

  -- the nearest entries of a queue act, after a sampling by which each goes the way of its control's decision
  module _ (vs : List Decision) (m : Machine) (y : Claim) (h : IsRunning c m) (look : look_over ps m.at y ≡ Decided vs)
      (controls : AllByRecursion (λ e. e.control < length cs) m.queue)
      (own : AllByRecursion (λ e. way_of (get_or vs e.control Hold) ≡ Some e.up) m.queue) where
    abbrev is_near : Entry → Bool
    is_near e = e.time == least_time m.queue

    abbrev due : List Entry
    due = nearest m.queue

    modest_entry : (e : Entry) → IsTimely e × ((e.control < length cs) × (way_of (get_or vs e.control Hold) ≡ Some e.up))
        → IsModestEntry vs e
    modest_entry e t =
        let l : e.control < length ps = omega (arith, t.1.0, length-map ps control_of) in
        let p = some_probe ps e.control l in
        record {
          time = omega (arith, t.0.0);
          control = omega (arith, l, many);
          steps = wants_few tap_law away_law (size_of (layout_of c.elements)) (get_or ps e.control p) m.at
              (get_or vs e.control Hold) e.up (places e.control p l) (wants_each ps m.at y vs look e.control p l) t.1.1;
        }

    modest : AllByRecursion (IsModestEntry vs) due
    modest =
        let way = λ (e : Entry). way_of (get_or vs e.control Hold) ≡ Some e.up in
        let all = each_both IsTimely (λ e. (e.control < length cs) × way e) m.queue h.timely
        (each_both (λ e. e.control < length cs) way m.queue controls own) in
        each_filter (IsModestEntry vs) is_near m.queue
        (each_weaker (λ e. IsTimely e × ((e.control < length cs) × way e)) (IsModestEntry vs) modest_entry m.queue all)

    acted : IsRunning c (all_acted (setup_of c) vs m)
    acted =
        let waits : Machine = record m { queue = later m.queue } in
        let soon = each_filter OpensEarly is_near m.queue (each_weaker IsTimely OpensEarly (λ e t. t.1) m.queue h.timely) in
        let stays = all_stay timing' cs c.options.maxcontroliter vs due waits (omega (arith, h.now)) soon h.early in
        record {
          now = omega (arith, stays.now, h.now);
          each = stays.each ∙ h.each;
          early = stays.early;
          timely = subst (AllByRecursion IsTimely) (sym stays.queue)
              (each_filter IsTimely (λ e. not (e.time == least_time m.queue)) m.queue h.timely);
        }

  -- ---- a round

  by_step : (any most : Bool) (m after : Machine) (acts : List Act) → IsRunning c m → IsRunning c after
      → AllByRecursion HasNumbers acts
      → IsRound c (outcome_after (cond (not any) (Quiet m) (cond most (AtLimit m) (Acts after acts))))
  by_step true true m after acts h a numbers = record { left = h; acts = tt }
  by_step true false m after acts h a numbers = record { left = a; acts = numbers }
  by_step false most m after acts h a numbers = record { left = h; acts = tt }

  step_runs : (vs : List Decision) (m : Machine) (y : Claim) → IsRunning c m → KeepsQueue (length cs) m
      → look_over ps m.at y ≡ Decided vs → IsRound c (outcome_after (step_of (setup_of c) vs m))
  unfolding step_of
  step_runs vs m y h queue look =
      let n = sampled 0 cs vs m in
      let alone = sampled_alone 0 cs vs m in
      let f : Probe → Result Decision Undecided = λ p. sample_over p m.at y.centre y.radii in
      let many : length vs ≡ length cs = (decided_each 0 (map f ps) vs look).each ∙ length-map ps f ∙ sym (length-map ps control_of) in
      let there : look_over ps n.at y ≡ Decided vs = subst (λ (x : Machine). look_over ps x.at y ≡ Decided vs) (sym alone) look in
      let runs : IsRunning c n = record {
        now = subst (λ (x : Machine). x.now < 2 ^ 60) (sym alone) h.now;
        each = subst (λ (x : Machine). length x.opened ≡ list_n (λ e. bank_count e.1) c.elements) (sym alone) h.each;
        early = subst (λ (x : Machine). All IsEarly x.opened) (sym alone) h.early;
        timely = sampled_timely ps 0 vs m times h.now h.early h.timely;
      } in
      let controls = (sampled_keeps queue_law cs vs m queue).controls in
      let own = own_law (setup_of c) vs m queue many in
      by_step (list_any ((rule_of timing').is_due n.now) n.queue) (nat_le c.options.maxcontroliter n.made) n (all_acted (setup_of c) vs n)
      (acts_of (setup_of c) vs n (nearest n.queue)) runs (acted vs n y runs there controls own)
      (act_numbers timing' cs c.options.maxcontroliter vs n (nearest n.queue) (omega (arith, runs.now)) (modest vs n y runs there controls own))

  round_runs : (m : Machine) (y : Claim) → IsRunning c m → KeepsQueue (length cs) m
      → IsRound c (outcome_of (setup_of c) m (look_over ps m.at y))
  round_runs m y h queue = by (look_over ps m.at y) refl
    where
      by : (w : Sampling) → look_over ps m.at y ≡ w → IsRound c (outcome_of (setup_of c) m w)
      by (Decided vs) is = step_runs vs m y h queue is
      by (Unclear k u) is = record { left = h; acts = tt }

  -- ---- all rounds

  module _ (powers : List LoadPower) (kept : (m : Machine) (y : Claim) → IsMachineOf c powers m
      → IsMachineOf c powers (left_by (outcome_of (setup_of c) m (look_over (controls_in c) m.at y)))) where
    record Rounds (m : Machine) (rounds : List (Claim × List Act)) (n : Machine) : Type 0 where
      positions : AtEach (λ at y. ArePositions c powers at) (plant_of c powers) m (map (λ r. r.0) rounds)
      acts : AllByRecursion (λ r. AllByRecursion HasNumbers r.1) rounds
      machine : IsMachineOf c powers n
      runs : IsRunning c n

    behind : (o : Outcome) (acts : List Act) (rest : List (Claim × List Act)) (ending : Ending) (n : Machine)
        (P : Machine → Type 0) → IsRound c o → IsMachineOf c powers (left_by o) → Follows o acts rest ending n P
        → ((k : Machine) → IsRunning c k → IsMachineOf c powers k → P k → Rounds k rest n)
        → AllByRecursion HasNumbers acts × Rounds (left_by o) rest n
    behind (Moves made k) acts rest ending n P h machine f go = (subst (AllByRecursion HasNumbers) (sym f.0) h.acts, go k h.left machine f.1)
    behind (Ends end k) acts rest ending n P h machine f go = (
      subst (AllByRecursion HasNumbers) (sym f.0) tt,
      subst (λ (rs : List (Claim × List Act)). Rounds k rs n) (sym f.1.0) (record {
        positions = tt;
        acts = tt;
        machine = subst (IsMachineOf c powers) (sym f.1.1.1) machine;
        runs = subst (IsRunning c) (sym f.1.1.1) h.left;
      }),
    )

    none_kept : (m n : Machine) → IsRunning c m → IsMachineOf c powers m → n ≡ m → Rounds m [] n
    none_kept m n h machine same = record {
      positions = tt;
      acts = tt;
      machine = subst (IsMachineOf c powers) (sym same) machine;
      runs = subst (IsRunning c) (sym same) h;
    }

    rounds_kept : (answer : Answering) (m : Machine) (rounds : List (Claim × List Act)) (ending : Ending) (n : Machine)
        → IsRunning c m → IsMachineOf c powers m → IsComputedFrom answer (plant_of c powers) m rounds ending n
        → Rounds m rounds n
    rounds_kept answer m [] (ended end) n h machine f = absurd f
    rounds_kept answer m [] (range blame) n h machine f = none_kept m n h machine f.1
    rounds_kept answer m [] (stopped stop) n h machine f = none_kept m n h machine f.1.1
    rounds_kept answer m (r ∷ rest) ending n h machine f =
        let o = outcome_of (setup_of c) m (look_over ps m.at r.0) in
        let later = behind o r.1 rest ending n (λ k. IsComputedFrom answer (plant_of c powers) k rest ending n)
        (round_runs m r.0 h machine.queue) (kept m r.0 machine) f.1.1
        (λ k runs is more. rounds_kept answer k rest ending n runs is more) in
        record {
          positions = (machine.positions, later.1.positions);
          acts = (later.0, later.1.acts);
          machine = later.1.machine;
          runs = later.1.runs;
        }

-- ---- a settle

taken_few : (mode : ControlMode) (ps : List Probe) (n : ℕ) → length ps ≤ n → length (taking_part mode ps) ≤ n
taken_few control_mode.Off ps n h = omega arith
taken_few control_mode.Static ps n h = h
taken_few control_mode.Time ps n h = h

pub rounds_are_kept : QueueLaw → OwnLaw → TapLaw → AwayLaw → KeptLaw → KeptRoundsLaw
rounds_are_kept queue_law own_law tap_law away_law kept_law c powers m answer rounds ending n ready circuit start computed =
    let fit = probes_kept c ready circuit.elements_in_range circuit.well_formed.entries in
    let mode = c.options.controlmode in
    let all = probes_of c.elements in
    let few = taken_few mode all (length c.elements) fit.few in
    let most = circuit.few in
    let kept = rounds_kept queue_law own_law tap_law away_law c
    (all_taken (IsProbe (size_of (layout_of c.elements))) mode all fit.places) (all_taken HasTimes mode all fit.times)
    (omega (arith, few, most)) powers
    (λ m y h. kept_law c powers m y ready circuit.elements_in_range circuit.well_formed.entries h) answer
    m rounds ending n
    (record { now = start.now; each = start.each; early = start.early; timely = start.timely })
    (record { positions = start.positions; queue = start.queue }) computed in
    record {
      positions = kept.positions;
      acts = kept.acts;
      left = record {
        positions = kept.machine.positions;
        now = kept.runs.now;
        each = kept.runs.each;
        early = kept.runs.early;
        queue = kept.machine.queue;
        timely = kept.runs.timely;
      };
    }

-- ---- an hour begins

-- with what a Solve of a circuit starts at these positions
pub solve_can_start : (c : CircuitView) (powers : List LoadPower) (at : Positions) (time : ℕ) (opened : List (Option ℕ))
    → ArePositions c powers at → time < 2 ^ 60 → length opened ≡ list_n (λ e. bank_count e.1) c.elements → All IsEarly opened
    → CanStart c powers (started c at time opened)
solve_can_start c powers at time opened positions now each early = record {
  positions = positions;
  now = now;
  each = each;
  early = early;
  queue = record { queue = record { sorted = tt; one_each = tt; numbers = tt }; controls = tt };
  timely = tt;
}

-- what a settle can start from, the next hour of the Solve can too
pub hour_can_start : (timing : Timing) (c : CircuitView) (powers others : List LoadPower) (m : Machine) (time : ℕ)
    → CanStart c powers m → ArePositions c others m.at → time < 2 ^ 60 → CanStart c others (hour_begun timing time m)
hour_can_start timing.Static c powers others m time h positions now = record {
  positions = positions;
  now = now;
  each = h.each;
  early = h.early;
  queue = record { queue = record { sorted = tt; one_each = tt; numbers = tt }; controls = tt };
  timely = tt;
}
hour_can_start timing.Clock c powers others m time h positions now = record {
  positions = positions;
  now = now;
  each = h.each;
  early = h.early;
  queue = h.queue;
  timely = h.timely;
}
