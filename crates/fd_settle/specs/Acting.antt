-- A control at work: what its sample and its act make of its state and of the devices.
use Rattle.std.specs.Prelude.{◌≡◌, ℕ, suc, ◌+◌, ◌*◌, ℤ, ◌<◌, ◌≤◌, ◌^◌, true, Bool, if◌then◌else◌, List, [], ◌∷◌, length, map, get_or, set, All, Option, Some, None, vec_capacity}
use Rattle.std.specs.List.{AllByRecursion, fold}
use Rattle.fd_sample.specs.fd_xfmr.Leakage.{AreTaps}
use Rattle.fd_inject.specs.fd_arith.declared.terms.TapPair.{TapPair}
use Rattle.fd_sample.specs.fd_capctl.CapState.{AreEarly, IsEarly, opened_at, switch}
use Rattle.fd_sample.specs.fd_capctl.CapState as bank
use Rattle.fd_sample.specs.fd_queue.Controls.{Control, Positions, Regulates, Switches, no_taps, tap_of}
use Rattle.fd_sample.specs.fd_queue.Decisions.{Decision, Raise, Hold, Lower, is_raise, steps_of, way_of}
use Rattle.fd_sample.specs.fd_queue.Machine.{Act, Machine, Setup, ShowsQueue, acts_of, all_acted, moved, reacted, rule_of, sampled, signed_steps}
use Rattle.fd_sample.specs.fd_queue.Queue.{InPairs, QueueView, later, nearest}
use Rattle.fd_sample.specs.fd_queue.Verdicts.{decision, is_decided}
use Rattle.fd_sample.specs.fd_queue.declared.entry.Entry.{Entry}
use Rattle.fd_sample.specs.fd_queue.declared.timing.Timing.{Timing}
use Rattle.fd_sample.specs.fd_queue.declared.verdict.Verdict.{Verdict}
use Rattle.fd_sample.specs.fd_regctl.RegState.{changer, moved_pair}
use Rattle.fd_sample.specs.fd_regctl.RegState as regulator
use Rattle.fd_sample.specs.declared.probe.Probe.{Probe}
use Rattle.fd_sample.specs.declared.probe.Probe.TheVariants as probe
use Rattle.fd_sample.specs.Decided.{sample_over}
use Rattle.fd_sample.specs.Circuits.{AreApart, HasRange, HasTimes}
use Rattle.fd_sample.specs.Probes.{HasDevice, control_of}
use Rattle.fd_sample.specs.fd_devices.declared.settings.Positions.{Positions as CodePositions}
use Rattle.fd_sample.specs.fd_queue.MachineLaws.{IsQueueOf}
use Rattle.fd_settle.specs.declared.clock.Clock.{Clock}
use Rattle.fd_settle.specs.declared.controls.Controls.{Controls}
use Rattle.fd_settle.specs.declared.progress.Progress.{Progress}
use Rattle.fd_settle.specs.declared.progress.Progress.TheVariants as progress
use Rattle.fd_settle.specs.declared.state.ControlState.{ControlState}
use Rattle.fd_settle.specs.declared.state.ControlState.TheVariants as state
use Rattle.fd_settle.specs.Controls.{AreStates, OpensEarly, machine_of, moved_in, probe_in, probes_in}
use Rattle.fd_settle.specs.Sampling.{Sampling, Decided, Unclear, sampling_of}

-- ---- a control's state

abbrev pub number_in : ControlState → ℕ
number_in (state.Regulator p s) = s.control
number_in (state.Bank p s) = s.control

-- the latest decision
abbrev pub verdict_in : ControlState → Decision
verdict_in (state.Regulator p s) = s.verdict
verdict_in (state.Bank p s) = s.verdict

-- the control by the settings of its state
abbrev pub control_in : ControlState → Control
control_in (state.Regulator p s) = Regulates (changer s p.transformer)
control_in (state.Bank p s) = Switches (switch s p.bank)

-- the controls in the words of the queue machine
abbrev pub controls_of : List ControlState → List Control
controls_of ss = map control_of (map probe_in ss)

-- at the start of a settle: nothing is decided, and nothing moved
abbrev pub fresh : ℕ → Option ℕ → Probe → ControlState
fresh k opened (probe.Regulator p) = state.Regulator p (record {
  control = k;
  is_second = p.is_second;
  tap_step = p.tap_step;
  delay = p.delay;
  tap_delay = p.tapdelay;
  verdict = Hold;
  moved = None;
})
fresh k opened (probe.Bank p) = state.Bank p (record {
  control = k;
  delay = p.delay;
  delay_off = p.delayoff;
  dead_time = p.deadtime;
  opened = opened;
  verdict = Hold;
  moved = None;
})

-- the last opening time of a control's bank
abbrev pub opened_for : List (Option ℕ) → Probe → Option ℕ
opened_for opened (probe.Regulator p) = None
opened_for opened (probe.Bank p) = get_or opened p.bank None

abbrev pub fresh_from : List (Option ℕ) → ℕ → List Probe → List ControlState
fresh_from opened k [] = []
fresh_from opened k (p ∷ ps) = fresh k (opened_for opened p) p ∷ fresh_from opened (suc k) ps

-- without its latest move
abbrev pub rested : ControlState → ControlState
rested (state.Regulator p s) = state.Regulator p (record s { moved = None })
rested (state.Bank p s) = state.Bank p (record s { moved = None })

-- ---- sampling

abbrev pub AreDecided : List Verdict → Type 0
AreDecided vs = All (λ v. is_decided v ≡ true) vs

-- the sampling of controls over a ball
abbrev pub sampled_over : List ControlState → Positions → List ℤ → List ℕ → Sampling
sampled_over ss at centre radii = sampling_of 0 (map (λ p. sample_over p at centre radii) (map probe_in ss))

-- all verdicts are decided, or one sample isn't
abbrev pub IsSampled : Option Progress → List Verdict → Sampling → Type 0
IsSampled None vs s = (s ≡ Decided (map decision vs)) × AreDecided vs
IsSampled (Some (progress.Undecided control low high edge)) vs s = s ≡ Unclear control (record { low = low; high = high; edge = edge })
IsSampled (Some progress.Moved) vs s = ⊥
IsSampled (Some progress.Settled) vs s = ⊥
IsSampled (Some (progress.Limited acts)) vs s = ⊥

-- ---- reacting

abbrev pub with_verdict : Decision → ControlState → ControlState
with_verdict v (state.Regulator p s) = state.Regulator p (record s { verdict = v })
with_verdict v (state.Bank p s) = state.Bank p (record s { verdict = v })

abbrev pub judged : List ControlState → List Decision → List ControlState
judged [] vs = []
judged (s ∷ ss) [] = s ∷ ss
judged (s ∷ ss) (v ∷ vs) = with_verdict v s ∷ judged ss vs

-- times from which an entry's time can be made
abbrev pub HasEarlyTimes : ControlState → ℕ → Type 0
HasEarlyTimes (state.Regulator p s) now = (now < 2 ^ 62) × (s.delay < 2 ^ 62) × (s.tap_delay < 2 ^ 62)
HasEarlyTimes (state.Bank p s) now = AreEarly s now

-- the machine shows the queue, the time, and what the control's entry depends on
abbrev pub ShowsState : Machine → ControlState → QueueView → ℕ → Type 0
ShowsState m (state.Regulator p s) q now = regulator.ShowsWaiting m s q now
ShowsState m (state.Bank p s) q now = bank.ShowsWaiting m s p.bank q now

-- what a machine shows before, it shows after the sampling rules
abbrev pub Reacts : ControlState → QueueView → QueueView → ℕ → Decision → Type 0
Reacts s q after now v = (m : Machine) → ShowsState m s q now → ShowsQueue (reacted (control_in s) (number_in s) v m) after now

-- the machine with these controls and this queue
abbrev pub waiting : Positions → ℕ → Clock → List ControlState → QueueView → Machine
waiting at made clock ss q = record {
  at = at;
  now = clock.now;
  opened = clock.opened.items;
  moves = map moved_in ss;
  queue = q.entries;
  next = q.next;
  made = made;
}

-- ---- acting

-- the control's device is there
abbrev pub HasPlace : List TapPair → List Bool → List (Option ℕ) → ControlState → Type 0
HasPlace taps closed opened (state.Regulator p s) = p.transformer < length taps
HasPlace taps closed opened (state.Bank p s) = (p.bank < length closed) × (p.bank < length opened)

-- the moved tap stays within the range of taps
abbrev pub MovesWithin : ℕ → ℕ → Decision → Type 0
MovesWithin tap step (Raise n) = tap + n * step ≤ 200000
MovesWithin tap step Hold = ⊥
MovesWithin tap step (Lower n) = 50000 + n * step ≤ tap

-- the latest decision fits the device
abbrev pub FitsDevice : List TapPair → ControlState → Type 0
FitsDevice taps (state.Regulator p s) =
    (steps_of s.verdict ≤ 1000) × MovesWithin (tap_of s.is_second (get_or taps p.transformer no_taps)) s.tap_step s.verdict
FitsDevice taps (state.Bank p s) = steps_of s.verdict ≡ 1

-- an entry of the control goes the way of its latest decision
pub record CanAct (taps : List TapPair) (s : ControlState) (e : Entry) : Type 0 where
  pub control : e.control ≡ number_in s
  pub way : way_of (verdict_in s) ≡ Some e.up
  pub fits : FitsDevice taps s

-- what its act leaves
abbrev pub acted_taps : ControlState → List TapPair → List TapPair
acted_taps (state.Regulator p s) taps = set taps p.transformer (moved_pair s (get_or taps p.transformer no_taps))
acted_taps (state.Bank p s) taps = taps

abbrev pub acted_closed : ControlState → List Bool → List Bool
acted_closed (state.Regulator p s) closed = closed
acted_closed (state.Bank p s) closed = set closed p.bank (is_raise s.verdict)

abbrev pub acted_opened : ℕ → ControlState → List (Option ℕ) → List (Option ℕ)
acted_opened time (state.Regulator p s) opened = opened
acted_opened time (state.Bank p s) opened = set opened p.bank (opened_at time (is_raise s.verdict) s.opened)

abbrev pub acted_state : ℕ → ControlState → ControlState
acted_state time (state.Regulator p s) = state.Regulator p (record s { moved = Some (is_raise s.verdict) })
acted_state time (state.Bank p s) = state.Bank p (record s {
  moved = Some (is_raise s.verdict);
  opened = opened_at time (is_raise s.verdict) s.opened;
})

abbrev pub stands_after : ControlState → List TapPair → ℕ
stands_after (state.Regulator p s) taps = tap_of p.is_second (moved_pair s (get_or taps p.transformer no_taps))
stands_after (state.Bank p s) taps = if is_raise s.verdict then 1 else 0

-- the act of its entry at this time
abbrev pub act_of : ControlState → ℕ → Entry → List TapPair → Act
act_of s time e taps = record {
  time = time;
  control = e.control;
  steps = signed_steps (is_raise (verdict_in s)) (steps_of (verdict_in s));
  after = stands_after s taps;
}

-- the machine at this time with these controls, where their devices stand so
abbrev pub acting : ℕ → List TapPair → List Bool → List (Option ℕ) → List ControlState → Machine → Machine
acting now taps closed opened ss m = record m {
  at = record { taps = taps; closed = closed };
  now = now;
  opened = opened;
  moves = map moved_in ss;
}

abbrev pub setup_of_states : Timing → ℕ → List ControlState → Setup
setup_of_states timing limit ss = record { rule = rule_of timing; controls = controls_of ss; limit = limit }

-- the control of each entry can act
abbrev pub AllCanAct : List TapPair → List ControlState → List Entry → Type 0
AllCanAct taps ss es = AllByRecursion (λ e. (d : ControlState) → CanAct taps (get_or ss e.control d) e) es

-- the controls and what they move: each device is there, taps are in range, and no two controls move one device
pub record AreStanding (taps : List TapPair) (closed : List Bool) (opened : List (Option ℕ))
    (ss : List ControlState) : Type 0 where
  pub states : AreStates opened ss
  pub devices : All (HasDevice (record { taps = taps; closed = closed })) (map probe_in ss)
  pub ranges : All HasRange (map probe_in ss)
  pub apart : InPairs AreApart (map probe_in ss)
  pub within : All AreTaps taps
  pub each : length opened ≡ length closed
  pub early : All IsEarly opened

-- ---- the controls together

-- the reactions of these controls to these decisions lead from a queue to that one
abbrev pub ReactionsLeadTo : Clock → List ControlState → List Decision → QueueView → QueueView → Type 0
ReactionsLeadTo clock ss vs q after = (at : Positions) (made : ℕ) →
    sampled 0 (controls_of ss) vs (waiting at made clock ss q) ≡ waiting at made clock ss after

-- the acts of these entries at this time lead from these controls and devices to those
pub record ActsLeadTo (timing : Timing) (now : ℕ) (due : List Entry) (ss : List ControlState) (taps : List TapPair) (closed : List Bool) (opened : List (Option ℕ))
    (new : List ControlState) (taps' : List TapPair) (closed' : List Bool) (opened' : List (Option ℕ)) (made : List Act) : Type 0 where
  pub machine : (limit : ℕ) (m : Machine) →
      fold (moved (setup_of_states timing limit ss) (map verdict_in ss)) (acting now taps closed opened ss m) due
      ≡ acting now taps' closed' opened' new m
  pub acts : (limit : ℕ) (m : Machine)
      → acts_of (setup_of_states timing limit ss) (map verdict_in ss) (acting now taps closed opened ss m) due ≡ made

-- what a reaction of all controls asks for
pub record CanReact (clock : Clock) (c : Controls) : Type 0 where
  pub each : length c.verdicts.items ≡ length c.states.items
  pub decided : AreDecided c.verdicts.items
  pub states : AreStates clock.opened.items c.states.items
  pub times : All HasTimes (probes_in c)
  pub early : All IsEarly clock.opened.items
  pub now : clock.now < 2 ^ 60
  pub few : length c.states.items < 2 ^ 18
  pub queue : IsQueueOf (length c.states.items) c.queue.next c.queue.entries
  pub openings : AllByRecursion OpensEarly c.queue.entries
  pub room : length c.states.items ≤ c.queue.spare + length c.queue.entries
  pub numbers : c.queue.next < 2 ^ 62

-- what it leaves
pub record HaveReacted (clock : Clock) (c new : Controls) : Type 0 where
  pub states : new.states.items ≡ judged c.states.items (map decision c.verdicts.items)
  pub machine : (at : CodePositions)
      → sampled 0 (controls_of c.states.items) (map decision c.verdicts.items) (machine_of at clock c) ≡ machine_of at clock new
  pub openings : AllByRecursion OpensEarly new.queue.entries
  pub numbers : new.queue.next ≤ c.queue.next + length c.states.items
  pub room : new.queue.spare + length new.queue.entries ≡ c.queue.spare + length c.queue.entries
  pub verdicts : new.verdicts ≡ c.verdicts
  pub due : new.due ≡ c.due
  pub made : new.made ≡ c.made
  pub limit : new.limit ≡ c.limit
  pub timing : new.timing ≡ c.timing

-- what an act of the nearest entries asks for
pub record CanActNow (at : CodePositions) (clock : Clock) (c : Controls) : Type 0 where
  pub standing : AreStanding at.taps at.closed clock.opened.items c.states.items
  pub queue : IsQueueOf (length c.states.items) c.queue.next c.queue.entries
  pub can_act : AllCanAct at.taps c.states.items c.queue.entries
  pub openings : AllByRecursion OpensEarly c.queue.entries
  pub due_room : length c.queue.entries ≤ vec_capacity c.due
  pub made : c.made < 2 ^ 31
  pub now : clock.now < 2 ^ 60

-- what it leaves
pub record HaveActed (at at' : CodePositions) (clock clock' : Clock) (c new : Controls) (acts : List Act) : Type 0 where
  pub machine : (limit : ℕ)
      → all_acted (setup_of_states c.timing limit c.states.items) (map verdict_in c.states.items) (machine_of at clock c) ≡ machine_of at' clock' new
  pub made_acts : (limit : ℕ)
      → acts_of (setup_of_states c.timing limit c.states.items) (map verdict_in c.states.items) (machine_of at clock c) (nearest c.queue.entries) ≡ acts
  pub standing : AreStanding at'.taps at'.closed clock'.opened.items new.states.items
  pub probes : probes_in new ≡ probes_in c
  pub each_tap : length at'.taps ≡ length at.taps
  pub each_closed : length at'.closed ≡ length at.closed
  pub entries : new.queue.entries ≡ later c.queue.entries
  pub next : new.queue.next ≡ c.queue.next
  pub room : new.queue.spare + length new.queue.entries ≡ c.queue.spare + length c.queue.entries
  pub due_room : vec_capacity c.due ≤ vec_capacity new.due
  pub verdicts : new.verdicts ≡ c.verdicts
  pub made : new.made ≡ c.made + 1
  pub limit : new.limit ≡ c.limit
  pub timing : new.timing ≡ c.timing
  pub now : clock'.now ≡ clock.now
