-- A step of the controls: its sampling, its reactions, and how it ends.
use Rattle.std.proofs.Common.{◌≡◌, ◌≢◌, ℕ, ◌+◌, ◌*◌, ◌<◌, ◌≤◌, Bool, true, false, cond, not, List, map, length, get_or, Option, Some, refl, sym, ap, subst, ◌∙◌, arith}
use Rattle.std.specs.Prelude.{All, Result, ℤ, ◌==◌, nat_le, vec_capacity}
use Rattle.std.specs.List.{AllByRecursion, list_any}
use Rattle.std.proofs.lemmas.Bool.{le-leb, lt-leb}
use Rattle.std.proofs.lemmas.List.{get_or-map, length-map}
use Rattle.fd_sample.specs.fd_queue.Controls.{Positions}
use Rattle.fd_sample.specs.fd_queue.Decisions.{Decision, Hold, way_of}
use Rattle.fd_sample.specs.fd_queue.Machine.{Act, Machine, Setup, AtLimit, Acts, Quiet, Step, acts_of, all_acted, due_step, rule_of, sampled, step_of}
use Rattle.fd_sample.specs.fd_queue.MachineLaws.{IsQueueOf, KeepsQueue, OwnLaw, QueueLaw, RoomLaw}
use Rattle.fd_sample.specs.fd_queue.Queue.{InPairs, later, least_time, nearest}
use Rattle.fd_sample.specs.fd_queue.Verdicts.{decision}
use Rattle.fd_sample.specs.fd_queue.declared.entry.Entry.{Entry}
use Rattle.fd_sample.specs.fd_queue.declared.timing.Timing.{Timing}
use Rattle.fd_sample.specs.fd_queue.declared.verdict.Verdict.{Verdict}
use Rattle.fd_sample.specs.fd_regctl.RegulatorLaws.{TapLaw}
use Rattle.fd_sample.specs.fd_capctl.BankLaws.{AwayLaw}
use Rattle.fd_sample.specs.fd_devices.declared.settings.Positions.{Positions as CodePositions}
use Rattle.fd_sample.specs.declared.probe.Probe.{Probe}
use Rattle.fd_sample.specs.Circuits.{AreApart, HasRange, HasTimes}
use Rattle.fd_sample.specs.Decided.{Undecided, sample_over}
use Rattle.fd_sample.specs.Probes.{HasDevice, IsProbe, control_of, positions_in}
use Rattle.fd_settle.specs.declared.clock.Clock.{Clock}
use Rattle.fd_settle.specs.declared.controls.Controls.{Controls}
use Rattle.fd_settle.specs.declared.state.ControlState.{ControlState}
use Rattle.fd_settle.specs.Acting.{AllCanAct, CanActNow, HaveActed, HaveReacted, controls_of, judged, sampled_over, setup_of_states, verdict_in}
use Rattle.fd_settle.specs.Controls.{AreControls, AreStates, HasNumbers, IsStateOf, OpensEarly, machine_of, moved_in, probe_in, probes_in, setup_in}
use Rattle.fd_settle.specs.Sampling.{Sampling, Decided}
use Rattle.fd_settle.specs.Settle.{Ends, Limited, Moves, Outcome, Settled, outcome_after, outcome_of}
use Rattle.fd_settle.proofs.Fitting.{Wants, decided_each, entries_can, judged_own, judged_verdicts, sample_wants, state_same}
use Rattle.fd_settle.proofs.Lists.{each_filter, pairs_filter}
use Rattle.fd_settle.proofs.Reactions.{controls_length, judged_length, sampled_keeps}
use Rattle.fd_settle.proofs.Shown.{judged_probes}

-- ---- the samples

-- each control wants what its sample decides
pub all_want : (ss : List ControlState) (at : Positions) (centre : List ℤ) (radii : List ℕ) (vs : List Decision)
    → sampled_over ss at centre radii ≡ Decided vs →
    (k : ℕ) (d : ControlState) → k < length ss → Wants (probe_in (get_or ss k d)) at (get_or vs k Hold)
all_want ss at centre radii vs h k d l =
    let f : Probe → Result Decision Undecided = λ p. sample_over p at centre radii in
    let p = probe_in (get_or ss k d) in
    let there : k < length (map probe_in ss) = omega (arith, length-map ss probe_in) in
    let fits : k < length (map f (map probe_in ss)) = omega (arith, length-map (map probe_in ss) f, there) in
    let here : get_or (map f (map probe_in ss)) k (f p) ≡ f p = get_or-map f (map probe_in ss) k p (f p) there ∙ ap f (get_or-map probe_in ss k d p l) in
    sample_wants p at centre radii (get_or vs k Hold) (sym here ∙ (decided_each 0 (map f (map probe_in ss)) vs h).decided k (f p) fits)

-- ---- the controls after they have reacted

judged_states : (opened : List (Option ℕ)) (ss : List ControlState) (vs : List Decision) → AreStates opened ss
    → length vs ≡ length ss → AreStates opened (judged ss vs)
judged_states opened ss vs h e = λ k d l.
    let m : k < length ss = omega (arith, judged_length ss vs) in
    subst (IsStateOf opened k) (sym (judged_own ss vs k d (omega arith) m)) (state_same opened k (get_or vs k Hold) (get_or ss k d) (h k d m))

same_machine : (at : CodePositions) (clock : Clock) (c looked : Controls) → looked.states ≡ c.states
    → looked.queue ≡ c.queue → looked.made ≡ c.made →
    machine_of at clock looked ≡ machine_of at clock c
same_machine at clock c looked e f g =
    let moves : map moved_in looked.states.items ≡ map moved_in c.states.items = ap (λ v. map moved_in v.items) e in
    let entries : looked.queue.entries ≡ c.queue.entries = ap (λ q. q.entries) f in
    let next : looked.queue.next ≡ c.queue.next = ap (λ q. q.next) f in
    cc

-- what a step knows once the controls have reacted to these verdicts
pub record IsAfterReactions (n : ℕ) (at : CodePositions) (clock : Clock) (c new : Controls)
    (vs : List Verdict) : Type 0 where
  pub machine : sampled 0 (controls_of c.states.items) (map decision vs) (machine_of at clock c) ≡ machine_of at clock new
  pub verdicts : map verdict_in new.states.items ≡ map decision vs
  pub probes : probes_in new ≡ probes_in c
  pub each : length new.states.items ≡ length c.states.items
  pub controls : AreControls n at clock new
  pub numbers : new.queue.next ≤ c.queue.next + length c.states.items
  pub can_act : AllCanAct at.taps new.states.items new.queue.entries
  pub made : new.made ≡ c.made
  pub limit : new.limit ≡ c.limit
  pub timing : new.timing ≡ c.timing

module _ (queue_law : QueueLaw) (own_law : OwnLaw) (tap_law : TapLaw) (away_law : AwayLaw) where
  pub after_reactions : (n : ℕ) (at : CodePositions) (clock : Clock) (c looked new : Controls) (centre : List ℤ)
      (radii : List ℕ)
      → AreControls n at clock c → looked.states ≡ c.states → looked.queue ≡ c.queue
      → looked.due ≡ c.due → looked.made ≡ c.made → looked.limit ≡ c.limit → looked.timing ≡ c.timing
      → length c.states.items ≤ vec_capacity looked.verdicts → length looked.verdicts.items ≡ length c.states.items
      → sampled_over c.states.items (positions_in at) centre radii ≡ Decided (map decision looked.verdicts.items)
      → HaveReacted clock looked new → IsAfterReactions n at clock c new looked.verdicts.items
  after_reactions n at clock c looked new centre radii h same_states same_queue same_due same_made same_limit same_timing verdict_room each look r =
      let ss = c.states.items in
      let vs = map decision looked.verdicts.items in
      let m = machine_of at clock c in
      let items : looked.states.items ≡ ss = ap (λ v. v.items) same_states in
      let count : length vs ≡ length ss = length-map looked.verdicts.items decision ∙ each in
      let states : new.states.items ≡ judged ss vs = r.states ∙ ap (λ xs. judged xs vs) items in
      let probes : probes_in new ≡ probes_in c = ap (map probe_in) states ∙ judged_probes ss vs in
      let long : length new.states.items ≡ length ss = ap length states ∙ judged_length ss vs in
      let before : machine_of at clock looked ≡ m = same_machine at clock c looked same_states same_queue same_made in
      let machine : sampled 0 (controls_of ss) vs m ≡ machine_of at clock new =
      ap (λ x. sampled 0 (controls_of ss) vs x) (sym before)
      ∙ ap (λ xs. sampled 0 (controls_of xs) vs (machine_of at clock looked)) (sym items)
      ∙ r.machine at in
      let s : Setup = setup_in c in
      let cs = controls_length ss in
      let keeps : KeepsQueue (length s.controls) m = subst (λ k. IsQueueOf k c.queue.next c.queue.entries) (sym cs) h.queue in
      let entries : (sampled 0 s.controls vs m).queue ≡ new.queue.entries = ap (λ (x : Machine). x.queue) machine in
      let own : AllByRecursion (λ e. way_of (get_or vs e.control Hold) ≡ Some e.up) new.queue.entries =
      subst (AllByRecursion (λ e. way_of (get_or vs e.control Hold) ≡ Some e.up)) entries (own_law s vs m keeps (count ∙ sym cs)) in
      let after : IsQueueOf (length ss) new.queue.next new.queue.entries =
      subst (λ k. IsQueueOf k new.queue.next new.queue.entries) cs
      (subst (λ x. KeepsQueue (length s.controls) x) machine (sampled_keeps queue_law s.controls vs m keeps)) in
      record {
        machine = machine;
        verdicts = ap (map verdict_in) states ∙ judged_verdicts ss vs count;
        probes = probes;
        each = long;
        controls = record {
          places = subst (All (IsProbe n)) (sym probes) h.places;
          devices = subst (All (HasDevice (positions_in at))) (sym probes) h.devices;
          times = subst (All HasTimes) (sym probes) h.times;
          ranges = subst (All HasRange) (sym probes) h.ranges;
          apart = subst (InPairs AreApart) (sym probes) h.apart;
          few = omega (arith, long, h.few);
          taps = h.taps;
          opened_each = h.opened_each;
          early = h.early;
          now = h.now;
          states = subst (AreStates clock.opened.items) (sym states) (judged_states clock.opened.items ss vs h.states count);
          queue = subst (λ k. IsQueueOf k new.queue.next new.queue.entries) (sym long) after;
          openings = r.openings;
          room = omega (arith, r.room, h.room, long, ap (λ q. q.spare) same_queue, ap (λ q. length q.entries) same_queue);
          due_room = omega (arith, long, h.due_room, ap vec_capacity r.due, ap vec_capacity same_due);
          verdict_room = omega (arith, long, verdict_room, ap vec_capacity r.verdicts);
          limit = omega (arith, r.limit, same_limit, h.limit);
          made = omega (arith, r.limit, same_limit, r.made, same_made, h.made);
        };
        numbers = omega (arith, r.numbers, ap (λ q. q.next) same_queue, ap length items);
        can_act = subst (λ xs. AllCanAct at.taps xs new.queue.entries) (sym states)
            (entries_can tap_law away_law n clock.opened.items (positions_in at) ss vs new.queue.entries h.states h.places h.ranges count
            (all_want ss (positions_in at) centre radii vs look) after.controls own);
        made = r.made ∙ same_made;
        limit = r.limit ∙ same_limit;
        timing = r.timing ∙ same_timing;
      }

-- ---- how it ends

same_due : (c new : Controls) (now : ℕ) → new.timing ≡ c.timing
    → list_any ((rule_of c.timing).is_due now) new.queue.entries ≡ list_any ((rule_of new.timing).is_due now) new.queue.entries
same_due c new now h = ap (λ (t : Timing). list_any ((rule_of t).is_due now) new.queue.entries) (sym h)

none_by : (t : Bool) (a : Outcome) (m : Machine) (b : Step) → t ≡ false
    → outcome_after (cond (not t) (Quiet m) b) ≡ Ends Settled m
none_by true a m b h = absurd (cc)
none_by false a m b h = refl

pub settles : (n : ℕ) (at : CodePositions) (clock : Clock) (c new : Controls) (vs : List Verdict) (look : Sampling)
    → IsAfterReactions n at clock c new vs →
    look ≡ Decided (map decision vs) → list_any ((rule_of new.timing).is_due clock.now) new.queue.entries ≡ false →
    outcome_of (setup_in c) (machine_of at clock c) look ≡ Ends Settled (machine_of at clock new)
unfolding step_of
settles n at clock c new vs look h is none =
    ap (outcome_of (setup_in c) (machine_of at clock c)) is
    ∙ ap (λ m. outcome_after (due_step (setup_in c) (map decision vs) m)) h.machine
    ∙ none_by (list_any ((rule_of c.timing).is_due clock.now) new.queue.entries) (Ends Settled (machine_of at clock new)) (machine_of at clock new) _
    (same_due c new clock.now h.timing ∙ none)

limit_by : (t u : Bool) (m : Machine) (b : Step) → t ≡ true → u ≡ true
    → outcome_after (cond (not t) (Quiet m) (cond u (AtLimit m) b)) ≡ Ends Limited m
limit_by true true m b h i = refl
limit_by true false m b h i = absurd (cc)
limit_by false u m b h i = absurd (cc)

pub limits : (n : ℕ) (at : CodePositions) (clock : Clock) (c new : Controls) (vs : List Verdict) (look : Sampling)
    → IsAfterReactions n at clock c new vs →
    look ≡ Decided (map decision vs) → list_any ((rule_of new.timing).is_due clock.now) new.queue.entries ≡ true
    → new.made ≡ new.limit →
    outcome_of (setup_in c) (machine_of at clock c) look ≡ Ends Limited (machine_of at clock new)
unfolding step_of
limits n at clock c new vs look h is some last =
    ap (outcome_of (setup_in c) (machine_of at clock c)) is
    ∙ ap (λ m. outcome_after (due_step (setup_in c) (map decision vs) m)) h.machine
    ∙ limit_by (list_any ((rule_of c.timing).is_due clock.now) new.queue.entries) (nat_le c.limit new.made) (machine_of at clock new) _
    (same_due c new clock.now h.timing ∙ some)
    (le-leb c.limit new.made (omega (arith, last, h.limit)))

moves_by : (t u : Bool) (m after : Machine) (acts : List Act) → t ≡ true → u ≡ false →
    outcome_after (cond (not t) (Quiet m) (cond u (AtLimit m) (Acts after acts))) ≡ Moves acts after
moves_by true true m after acts h i = absurd (cc)
moves_by true false m after acts h i = refl
moves_by false u m after acts h i = absurd (cc)

pub moves_on : (n : ℕ) (at at' : CodePositions) (clock clock' : Clock) (c new last : Controls) (vs : List Verdict) (look : Sampling) (acts : List Act) →
    IsAfterReactions n at clock c new vs → look ≡ Decided (map decision vs)
    → list_any ((rule_of new.timing).is_due clock.now) new.queue.entries ≡ true → new.made ≢ new.limit →
    HaveActed at at' clock clock' new last acts →
    outcome_of (setup_in c) (machine_of at clock c) look ≡ Moves acts (machine_of at' clock' last)
unfolding step_of
moves_on n at at' clock clock' c new last vs look acts h is some differs a =
    let s = setup_in c in
    let ds = map decision vs in
    let m = machine_of at clock new in
    let controls : setup_of_states new.timing c.limit new.states.items ≡ s =
    ap (λ (t : Timing). record { rule = rule_of t; controls = map control_of (probes_in new); limit = c.limit }) h.timing
    ∙ ap (λ ps. record { rule = rule_of c.timing; controls = map control_of ps; limit = c.limit }) h.probes in
    let after : all_acted s ds m ≡ machine_of at' clock' last =
    ap (λ x. all_acted x ds m) (sym controls) ∙ ap (λ x. all_acted (setup_of_states new.timing c.limit new.states.items) x m) (sym h.verdicts) ∙ a.machine c.limit in
    let made : acts_of s ds m (nearest new.queue.entries) ≡ acts =
    ap (λ x. acts_of x ds m (nearest new.queue.entries)) (sym controls)
    ∙ ap (λ x. acts_of (setup_of_states new.timing c.limit new.states.items) x m (nearest new.queue.entries)) (sym h.verdicts) ∙ a.made_acts c.limit in
    let below : new.made < c.limit = omega (arith, h.controls.made, differs, h.limit) in
    ap (outcome_of s (machine_of at clock c)) is
    ∙ ap (λ x. outcome_after (due_step s ds x)) h.machine
    ∙ moves_by (list_any ((rule_of c.timing).is_due clock.now) new.queue.entries) (nat_le c.limit new.made) m (all_acted s ds m) (acts_of s ds m (nearest new.queue.entries))
    (same_due c new clock.now h.timing ∙ some) (lt-leb c.limit new.made below)
    ∙ ap (λ x. Moves x (all_acted s ds m)) made ∙ ap (Moves acts) after

-- ---- the controls after an act

pub can_act_now : RoomLaw → (n : ℕ) (at : CodePositions) (clock : Clock) (c : Controls) → AreControls n at clock c
    → AllCanAct at.taps c.states.items c.queue.entries →
    CanActNow at clock c
can_act_now law n at clock c h can = record {
  standing = record {
    states = h.states;
    devices = h.devices;
    ranges = h.ranges;
    apart = h.apart;
    within = h.taps;
    each = h.opened_each;
    early = h.early;
  };
  queue = h.queue;
  can_act = can;
  openings = h.openings;
  due_room = omega (arith, law (length c.states.items) c.queue.next c.queue.entries h.queue, h.due_room);
  made = omega (arith, h.made, h.limit);
  now = h.now;
}

queue_later : (n next : ℕ) (es : List Entry) → IsQueueOf n next es → IsQueueOf n next (later es)
queue_later n next es h = record {
  queue = record {
    sorted = pairs_filter _ (λ e. not (e.time == least_time es)) es h.queue.sorted;
    one_each = pairs_filter (λ a b. a.control ≢ b.control) (λ e. not (e.time == least_time es)) es h.queue.one_each;
    numbers = each_filter (λ e. e.seq < next) (λ e. not (e.time == least_time es)) es h.queue.numbers;
  };
  controls = each_filter (λ e. e.control < n) (λ e. not (e.time == least_time es)) es h.controls;
}

pub acted_controls : (n : ℕ) (at at' : CodePositions) (clock clock' : Clock) (c new : Controls) (acts : List Act)
    → AreControls n at clock c →
    HaveActed at at' clock clock' c new acts → c.made ≢ c.limit → AreControls n at' clock' new
acted_controls n at at' clock clock' c new acts h a differs =
    let each : length new.states.items ≡ length c.states.items =
    sym (length-map new.states.items probe_in) ∙ ap length a.probes ∙ length-map c.states.items probe_in in
    record {
      places = subst (All (IsProbe n)) (sym a.probes) h.places;
      devices = a.standing.devices;
      times = subst (All HasTimes) (sym a.probes) h.times;
      ranges = a.standing.ranges;
      apart = a.standing.apart;
      few = omega (arith, each, h.few);
      taps = a.standing.within;
      opened_each = a.standing.each;
      early = a.standing.early;
      now = omega (arith, a.now, h.now);
      states = a.standing.states;
      queue = subst (λ k. IsQueueOf k new.queue.next new.queue.entries) (sym each)
          (subst (λ k. IsQueueOf (length c.states.items) k new.queue.entries) (sym a.next)
          (subst (λ es. IsQueueOf (length c.states.items) c.queue.next es) (sym a.entries)
          (queue_later (length c.states.items) c.queue.next c.queue.entries h.queue)));
      openings = subst (AllByRecursion OpensEarly) (sym a.entries)
          (each_filter OpensEarly (λ e. not (e.time == least_time c.queue.entries)) c.queue.entries h.openings);
      room = omega (arith, each, h.room, a.room);
      due_room = omega (arith, each, h.due_room, a.due_room);
      verdict_room = omega (arith, each, h.verdict_room, ap vec_capacity a.verdicts);
      limit = omega (arith, a.limit, h.limit);
      made = omega (arith, a.limit, a.made, h.made, differs);
    }

pub acted_numbers : (n : ℕ) (at at' : CodePositions) (clock clock' : Clock) (c new last : Controls) (vs : List Verdict) (acts : List Act)
    (first : ℕ)
    → IsAfterReactions n at clock c new vs →
    HaveActed at at' clock clock' new last acts → HasNumbers first c → HasNumbers first last
acted_numbers n at at' clock clock' c new last vs acts first h a numbers =
    let each : length last.states.items ≡ length c.states.items =
    sym (length-map last.states.items probe_in) ∙ ap length (a.probes ∙ h.probes) ∙ length-map c.states.items probe_in in
    let most : last.made ≡ c.made + 1 = a.made ∙ ap (λ k. k + 1) h.made in
    let product : last.made * length last.states.items ≡ c.made * length c.states.items + length c.states.items =
    ap (λ k. k * length last.states.items) most ∙ ap (λ k. (c.made + 1) * k) each ∙ omega arith in
    omega (arith, product, h.numbers, numbers, a.next)
