-- The controls before the first hour of a Solve, and at the start of each.
use Rattle.std.proofs.Common.{Bool, ◌≡◌, ℕ, zero, suc, ◌+◌, ◌<◌, ◌≤◌, List, [], ◌∷◌, ◌++◌, map, take, length, get_or, Option, None, refl, sym, ap, subst, ◌∙◌, arith}
use Rattle.std.specs.Prelude.{All, ◌^◌, replicate, vec_capacity}
use Rattle.std.specs.List.{AllByRecursion}
use Rattle.std.proofs.lemmas.List.{get_or-map, length-map, length-take-le, take_more}
use Rattle.fd_sample.specs.dss_circuit.Circuit.{CircuitView}
use Rattle.fd_sample.specs.dss_layout.Layout.{layout_of, size_of}
use Rattle.fd_sample.specs.fd_elements.declared.powers.LoadPower.{LoadPower}
use Rattle.fd_sample.specs.fd_devices.declared.settings.Positions.{Positions as CodePositions}
use Rattle.fd_sample.specs.fd_queue.Machine.{hour_begun}
use Rattle.fd_sample.specs.fd_queue.MachineLaws.{IsQueueOf}
use Rattle.fd_sample.specs.fd_queue.declared.entry.Entry.{Entry}
use Rattle.fd_sample.specs.fd_queue.declared.timing.Timing.TheVariants as timing
use Rattle.fd_sample.specs.declared.probe.Probe.{Probe}
use Rattle.fd_sample.specs.declared.probe.Probe.TheVariants as probe
use Rattle.fd_sample.specs.fd_queue.Queue.{InPairs}
use Rattle.fd_sample.specs.Circuits.{AreApart, AreProbes, HasRange, HasTimes}
use Rattle.fd_sample.specs.Probes.{HasDevice, IsProbe, positions_in}
use Rattle.fd_settle.specs.declared.clock.Clock.{Clock}
use Rattle.fd_settle.specs.declared.controls.Controls.{Controls}
use Rattle.fd_settle.specs.declared.state.ControlState.{ControlState}
use Rattle.fd_settle.specs.declared.state.ControlState.TheVariants as state
use Rattle.fd_settle.specs.Acting.{fresh, fresh_from, opened_for, rested}
use Rattle.fd_settle.specs.Controls.{AreAtWork, AreControls, AreStates, IsStateOf, OpensEarly, machine_of, moved_in, probe_in, probes_in}
use Rattle.fd_settle.specs.Plant.{controls_in, started, timing_of}
use Rattle.fd_settle.specs.Start.{ArePositions, IsClock}

fresh_more : (opened : List (Option ℕ)) (k : ℕ) (ps : List Probe) (p : Probe) →
    fresh_from opened k (ps ++ p ∷ []) ≡ fresh_from opened k ps ++ fresh (k + length ps) (opened_for opened p) p ∷ []
fresh_more opened k [] p =
    let here : k ≡ k + 0 = omega arith in
    ap (λ i. fresh i (opened_for opened p) p ∷ []) here
fresh_more opened k (q ∷ ps) p =
    let next : suc k + length ps ≡ k + suc (length ps) = omega arith in
    ap (λ ss. fresh k (opened_for opened q) q ∷ ss)
    (fresh_more opened (suc k) ps p ∙ ap (λ i. fresh_from opened (suc k) ps ++ fresh i (opened_for opened p) p ∷ []) next)

-- a control more
pub fresh_push : (opened : List (Option ℕ)) (ps : List Probe) (k : ℕ) (p : Probe) (ss : List ControlState)
    → k < length ps →
    ss ≡ fresh_from opened 0 (take k ps) → ss ++ fresh k (opened_for opened (get_or ps k p)) (get_or ps k p) ∷ [] ≡ fresh_from opened 0 (take (k + 1) ps)
fresh_push opened ps k p ss l h =
    let x = get_or ps k p in
    let n : 0 + length (take k ps) ≡ k = omega (arith, length-take-le k ps (omega arith)) in
    ap (λ xs. xs ++ fresh k (opened_for opened x) x ∷ []) h
    ∙ ap (λ i. fresh_from opened 0 (take k ps) ++ fresh i (opened_for opened x) x ∷ []) (sym n)
    ∙ sym (fresh_more opened 0 (take k ps) x) ∙ ap (fresh_from opened 0) (sym (take_more ps k p l))

-- ---- what they show

fresh_probe : (k : ℕ) (o : Option ℕ) (p : Probe) → probe_in (fresh k o p) ≡ p
fresh_probe k o (probe.Regulator p) = refl
fresh_probe k o (probe.Bank p) = refl

pub fresh_probes : (opened : List (Option ℕ)) (k : ℕ) (ps : List Probe) → map probe_in (fresh_from opened k ps) ≡ ps
fresh_probes opened k [] = refl
fresh_probes opened k (p ∷ ps) =
    ap (λ x. x ∷ map probe_in (fresh_from opened (suc k) ps)) (fresh_probe k (opened_for opened p) p) ∙ ap (λ xs. p ∷ xs) (fresh_probes opened (suc k) ps)

fresh_move : (k : ℕ) (o : Option ℕ) (p : Probe) → moved_in (fresh k o p) ≡ None
fresh_move k o (probe.Regulator p) = refl
fresh_move k o (probe.Bank p) = refl

pub fresh_moves : (opened : List (Option ℕ)) (k : ℕ) (ps : List Probe)
    → map moved_in (fresh_from opened k ps) ≡ replicate (length ps) None
fresh_moves opened k [] = refl
fresh_moves opened k (p ∷ ps) =
    ap (λ x. x ∷ map moved_in (fresh_from opened (suc k) ps)) (fresh_move k (opened_for opened p) p) ∙ ap (λ xs. None ∷ xs) (fresh_moves opened (suc k) ps)

pub fresh_length : (opened : List (Option ℕ)) (k : ℕ) (ps : List Probe) → length (fresh_from opened k ps) ≡ length ps
fresh_length opened k [] = refl
fresh_length opened k (p ∷ ps) = ap suc (fresh_length opened (suc k) ps)

fresh_state : (opened : List (Option ℕ)) (k : ℕ) (p : Probe) → IsStateOf opened k (fresh k (opened_for opened p) p)
fresh_state opened k (probe.Regulator p) = (refl, (refl, (refl, (refl, refl))))
fresh_state opened k (probe.Bank p) = (refl, (refl, (refl, (refl, refl))))

fresh_states : (opened : List (Option ℕ)) (j k : ℕ) (ps : List Probe) (d : ControlState) → k < length ps
    → IsStateOf opened (j + k) (get_or (fresh_from opened j ps) k d)
fresh_states opened j k [] d l = absurd (omega arith)
fresh_states opened j zero (p ∷ ps) d l =
    let here : j ≡ j + 0 = omega arith in
    subst (λ i. IsStateOf opened i (fresh j (opened_for opened p) p)) here (fresh_state opened j p)
fresh_states opened j (suc k) (p ∷ ps) d l =
    let next : suc j + k ≡ j + suc k = omega arith in
    subst (λ i. IsStateOf opened i (get_or (fresh_from opened (suc j) ps) k d)) next (fresh_states opened (suc j) k ps d (omega arith))

pub are_fresh : (opened : List (Option ℕ)) (ps : List Probe) → AreStates opened (fresh_from opened 0 ps)
are_fresh opened ps = λ k d l.
    let first : 0 + k ≡ k = omega arith in
    subst (λ i. IsStateOf opened i (get_or (fresh_from opened 0 ps) k d)) first (fresh_states opened 0 k ps d (omega (arith, l, fresh_length opened 0 ps)))

-- ---- the controls of a circuit

-- what is made before the first hour
pub record IsStarted (circuit : CircuitView) (clock : Clock) (c : Controls) : Type 0 where
  pub states : c.states.items ≡ fresh_from clock.opened.items 0 (controls_in circuit)
  pub entries : c.queue.entries ≡ []
  pub next : c.queue.next ≡ 0
  pub spare : length c.states.items ≤ c.queue.spare
  pub due : length c.states.items ≤ vec_capacity c.due
  pub verdicts : length c.states.items ≤ vec_capacity c.verdicts
  pub made : c.made ≡ 0
  pub limit : c.limit ≡ circuit.options.maxcontroliter
  pub timing : c.timing ≡ timing_of circuit.options.controlmode

pub started_machine : (circuit : CircuitView) (clock : Clock) (c : Controls) (at : CodePositions)
    → IsStarted circuit clock c →
    machine_of at clock c ≡ started circuit (positions_in at) clock.now clock.opened.items
started_machine circuit clock c at h =
    let moves : map moved_in c.states.items ≡ replicate (length (controls_in circuit)) None =
    ap (map moved_in) h.states ∙ fresh_moves clock.opened.items 0 (controls_in circuit) in
    ap (λ os. record {
      at = positions_in at;
      now = clock.now;
      opened = clock.opened.items;
      moves = os;
      queue = c.queue.entries;
      next = c.queue.next;
      made = c.made;
    }) moves
    ∙ ap (λ es. record {
      at = positions_in at;
      now = clock.now;
      opened = clock.opened.items;
      moves = replicate (length (controls_in circuit)) None;
      queue = es;
      next = c.queue.next;
      made = c.made;
    }) h.entries
    ∙ ap (λ k. record {
      at = positions_in at;
      now = clock.now;
      opened = clock.opened.items;
      moves = replicate (length (controls_in circuit)) None;
      queue = [];
      next = k;
      made = c.made;
    }) h.next
    ∙ ap (λ k. record {
      at = positions_in at;
      now = clock.now;
      opened = clock.opened.items;
      moves = replicate (length (controls_in circuit)) None;
      queue = [];
      next = 0;
      made = k;
    }) h.made

pub started_probes : (circuit : CircuitView) (clock : Clock) (c : Controls) → IsStarted circuit clock c
    → probes_in c ≡ controls_in circuit
started_probes circuit clock c h = ap (map probe_in) h.states ∙ fresh_probes clock.opened.items 0 (controls_in circuit)

pub started_controls : (circuit : CircuitView) (clock : Clock) (c : Controls) (at : CodePositions)
    (powers : List LoadPower)
    → IsStarted circuit clock c → IsClock circuit clock → ArePositions circuit powers (positions_in at)
    → AreProbes circuit.elements (controls_in circuit) → length circuit.elements ≤ 2 ^ 17
    → circuit.options.maxcontroliter ≤ 100 → AreControls (size_of (layout_of circuit.elements)) at clock c
started_controls circuit clock c at powers h times positions fit few most =
    let probes = started_probes circuit clock c h in
    let each : length c.states.items ≡ length (controls_in circuit) = ap length h.states ∙ fresh_length clock.opened.items 0 (controls_in circuit) in
    record {
      places = subst (All (IsProbe (size_of (layout_of circuit.elements)))) (sym probes) fit.places;
      devices = subst (All (HasDevice (positions_in at))) (sym probes) (fit.devices (positions_in at) positions.counts.taps positions.counts.closed);
      times = subst (All HasTimes) (sym probes) fit.times;
      ranges = subst (All HasRange) (sym probes) fit.ranges;
      apart = subst (InPairs AreApart) (sym probes) fit.apart;
      few = omega (arith, each, fit.few, few);
      taps = positions.taps;
      opened_each = times.each ∙ sym positions.counts.closed;
      early = times.early;
      now = times.now;
      states = subst (AreStates clock.opened.items) (sym h.states) (are_fresh clock.opened.items (controls_in circuit));
      queue = subst (IsQueueOf (length c.states.items) c.queue.next) (sym h.entries) (record {
        queue = record { sorted = tt; one_each = tt; numbers = tt };
        controls = tt;
      });
      openings = subst (AllByRecursion OpensEarly) (sym h.entries) tt;
      room = omega (arith, h.spare);
      due_room = h.due;
      verdict_room = h.verdicts;
      limit = omega (arith, h.limit, most);
      made = omega (arith, h.made);
    }

pub started_work : (circuit : CircuitView) (clock : Clock) (c : Controls) (at : CodePositions) (powers : List LoadPower)
    → IsStarted circuit clock c → IsClock circuit clock → ArePositions circuit powers (positions_in at)
    → AreProbes circuit.elements (controls_in circuit) → length circuit.elements ≤ 2 ^ 17
    → circuit.options.maxcontroliter ≤ 100 → AreAtWork circuit at clock c
started_work circuit clock c at powers h times positions fit few most = record {
  probes = started_probes circuit clock c h;
  limit = h.limit;
  timing = h.timing;
  keeps = started_controls circuit clock c at powers h times positions fit few most;
}

-- ---- an hour begins

rested_probe : (s : ControlState) → probe_in (rested s) ≡ probe_in s
rested_probe (state.Regulator p s) = refl
rested_probe (state.Bank p s) = refl

rested_move : (s : ControlState) → moved_in (rested s) ≡ None
rested_move (state.Regulator p s) = refl
rested_move (state.Bank p s) = refl

rested_state : (opened : List (Option ℕ)) (k : ℕ) (s : ControlState) → IsStateOf opened k s
    → IsStateOf opened k (rested s)
rested_state opened k (state.Regulator p s) h = h
rested_state opened k (state.Bank p s) h = h

pub rested_probes : (ss : List ControlState) → map probe_in (map rested ss) ≡ map probe_in ss
rested_probes [] = refl
rested_probes (s ∷ ss) =
    ap (λ p. p ∷ map probe_in (map rested ss)) (rested_probe s) ∙ ap (λ ps. probe_in s ∷ ps) (rested_probes ss)

pub rested_moves : (ss : List ControlState) → map moved_in (map rested ss) ≡ map (λ x. None) (map moved_in ss)
rested_moves [] = refl
rested_moves (s ∷ ss) =
    ap (λ o. o ∷ map moved_in (map rested ss)) (rested_move s) ∙ ap (λ os. None ∷ os) (rested_moves ss)

rested_states : (opened : List (Option ℕ)) (ss : List ControlState) → AreStates opened ss → AreStates opened (map rested ss)
rested_states opened ss h = λ k d l.
    let m : k < length ss = omega (arith, l, length-map ss rested) in
    subst (IsStateOf opened k) (sym (get_or-map rested ss k d d m)) (rested_state opened k (get_or ss k d) (h k d m))

-- in static mode
pub record IsRested (before after : Controls) : Type 0 where
  pub states : after.states.items ≡ map rested before.states.items
  pub entries : after.queue.entries ≡ []
  pub next : after.queue.next ≡ 0
  pub spare : after.queue.spare ≡ before.queue.spare + length before.queue.entries
  pub due : after.due ≡ before.due
  pub verdicts : after.verdicts ≡ before.verdicts
  pub made : after.made ≡ 0
  pub limit : after.limit ≡ before.limit
  pub timing : after.timing ≡ before.timing

pub rested_machine : (before after : Controls) (clock : Clock) (now : ℕ) (at : CodePositions) → IsRested before after
    → machine_of at (record clock { now = now }) after ≡ hour_begun timing.Static now (machine_of at clock before)
rested_machine before after clock now at h =
    let moves : map moved_in after.states.items ≡ map (λ x. None) (map moved_in before.states.items) =
    ap (map moved_in) h.states ∙ rested_moves before.states.items in
    ap (λ (os : List (Option Bool)). record {
      at = positions_in at;
      now = now;
      opened = clock.opened.items;
      moves = os;
      queue = after.queue.entries;
      next = after.queue.next;
      made = after.made;
    }) moves
    ∙ ap (λ (es : List Entry). record {
      at = positions_in at;
      now = now;
      opened = clock.opened.items;
      moves = map (λ x. None) (map moved_in before.states.items);
      queue = es;
      next = after.queue.next;
      made = after.made;
    }) h.entries
    ∙ ap (λ (k : ℕ). record {
      at = positions_in at;
      now = now;
      opened = clock.opened.items;
      moves = map (λ x. None) (map moved_in before.states.items);
      queue = [];
      next = k;
      made = after.made;
    }) h.next
    ∙ ap (λ (k : ℕ). record {
      at = positions_in at;
      now = now;
      opened = clock.opened.items;
      moves = map (λ x. None) (map moved_in before.states.items);
      queue = [];
      next = 0;
      made = k;
    }) h.made

rested_controls : (n : ℕ) (before after : Controls) (clock : Clock) (now : ℕ) (at : CodePositions) → IsRested before after
    → now < 2 ^ 60 → AreControls n at clock before → AreControls n at (record clock { now = now }) after
rested_controls n before after clock now at h early c =
    let probes : probes_in after ≡ probes_in before = ap (map probe_in) h.states ∙ rested_probes before.states.items in
    let each : length after.states.items ≡ length before.states.items =
    ap length h.states ∙ length-map before.states.items rested in
    record {
      places = subst (All (IsProbe n)) (sym probes) c.places;
      devices = subst (All (HasDevice (positions_in at))) (sym probes) c.devices;
      times = subst (All HasTimes) (sym probes) c.times;
      ranges = subst (All HasRange) (sym probes) c.ranges;
      apart = subst (InPairs AreApart) (sym probes) c.apart;
      few = omega (arith, each, c.few);
      taps = c.taps;
      opened_each = c.opened_each;
      early = c.early;
      now = early;
      states = subst (AreStates clock.opened.items) (sym h.states) (rested_states clock.opened.items before.states.items c.states);
      queue = subst (IsQueueOf (length after.states.items) after.queue.next) (sym h.entries) (record {
        queue = record { sorted = tt; one_each = tt; numbers = tt };
        controls = tt;
      });
      openings = subst (AllByRecursion OpensEarly) (sym h.entries) tt;
      room = omega (arith, each, h.spare, c.room);
      due_room = omega (arith, each, ap vec_capacity h.due, c.due_room);
      verdict_room = omega (arith, each, ap vec_capacity h.verdicts, c.verdict_room);
      limit = omega (arith, h.limit, c.limit);
      made = omega (arith, h.made);
    }

pub rested_work : (circuit : CircuitView) (before after : Controls) (clock : Clock) (now : ℕ) (at : CodePositions)
    → IsRested before after → now < 2 ^ 60 → AreAtWork circuit at clock before
    → AreAtWork circuit at (record clock { now = now }) after
rested_work circuit before after clock now at h early c = record {
  probes = ap (map probe_in) h.states ∙ rested_probes before.states.items ∙ c.probes;
  limit = h.limit ∙ c.limit;
  timing = h.timing ∙ c.timing;
  keeps = rested_controls (size_of (layout_of circuit.elements)) before after clock now at h early c.keeps;
}

-- where the time goes on with the hours
pub resumed_work : (circuit : CircuitView) (before : Controls) (clock : Clock) (now : ℕ) (at : CodePositions)
    → now < 2 ^ 60 → AreAtWork circuit at clock before
    → AreAtWork circuit at (record clock { now = now }) (record before { made = 0 })
resumed_work circuit before clock now at early c = record {
  probes = c.probes;
  limit = c.limit;
  timing = c.timing;
  keeps = record {
    places = c.keeps.places;
    devices = c.keeps.devices;
    times = c.keeps.times;
    ranges = c.keeps.ranges;
    apart = c.keeps.apart;
    few = c.keeps.few;
    taps = c.keeps.taps;
    opened_each = c.keeps.opened_each;
    early = c.keeps.early;
    now = early;
    states = c.keeps.states;
    queue = c.keeps.queue;
    openings = c.keeps.openings;
    room = c.keeps.room;
    due_room = c.keeps.due_room;
    verdict_room = c.keeps.verdict_room;
    limit = c.keeps.limit;
    made = omega arith;
  };
}
