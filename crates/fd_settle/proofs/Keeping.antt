-- A round leaves positions of its circuit and a queue of its controls.
use Rattle.std.proofs.Common.{◌≡◌, ◌≢◌, ◌∙◌, ℕ, zero, suc, ◌*◌, ◌<◌, Bool, true, false, cond, not, List, [], ◌∷◌, map, length, get_or, Some, refl, sym, ap, subst, arith}
use Rattle.std.specs.Prelude.{All, Result, nat_le}
use Rattle.std.specs.List.{AllByRecursion, fold, list_any}
use Rattle.std.proofs.lemmas.Bool.{cases_eq}
use Rattle.std.proofs.lemmas.List.{get_or-map, length-map, length-set}
use Rattle.std.proofs.lemmas.List.Elements.{All-nil, All-set}
use Rattle.fd_sample.specs.dss_model.declared.words.ControlMode.{ControlMode}
use Rattle.fd_sample.specs.dss_model.declared.words.ControlMode.TheVariants as control_mode
use Rattle.fd_sample.specs.fd_xfmr.Leakage.{AreTaps}
use Rattle.fd_cert.specs.fd_enclosure.Sound.{Claim}
use Rattle.fd_sample.specs.fd_queue.Controls.{Control, Positions, no_taps, pair_at, moved_tap, set_tap, tap_of}
use Rattle.fd_sample.specs.fd_queue.Decisions.{Decision, Hold, steps_of, way_of}
use Rattle.fd_sample.specs.fd_queue.Machine.{Act, Acts, AtLimit, Machine, Quiet, Rule, Setup, Step, acts_of, all_acted, moved, moved_by, no_control, rule_of, sampled, step_of}
use Rattle.fd_sample.specs.fd_queue.MachineLaws.{KeepsQueue, Leaves, OwnLaw, QueueLaw}
use Rattle.fd_sample.specs.fd_queue.Queue.{HaveOneEach, InPairs, later, nearest}
use Rattle.fd_sample.specs.fd_queue.declared.entry.Entry.{Entry}
use Rattle.fd_sample.specs.fd_regctl.RegulatorLaws.{TapLaw}
use Rattle.fd_sample.specs.declared.probe.Probe.{Probe}
use Rattle.fd_sample.specs.declared.probe.Probe.TheVariants as probe
use Rattle.fd_sample.specs.Circuits.{AreApart, HasRange, probes_of}
use Rattle.fd_sample.specs.Decided.{Undecided, sample_over}
use Rattle.fd_sample.specs.Probes.{HasDevice, control_of}
use Rattle.fd_sample.specs.Regulators.{settings_of}
use Rattle.fd_sample.proofs.CallerLemmas.{probes_kept}
use Rattle.fd_settle.specs.Acting.{MovesWithin}
use Rattle.fd_settle.specs.Kept.{IsMachineOf, KeptLaw}
use Rattle.fd_settle.specs.Plant.{controls_in, setup_of, taking_part, timing_of}
use Rattle.fd_settle.specs.Rounds.{left_by}
use Rattle.fd_settle.specs.Sampling.{Decided, Sampling, Unclear, look_over, sampling_of}
use Rattle.fd_settle.specs.Settle.{outcome_after, outcome_of}
use Rattle.fd_settle.proofs.Acts.{apart_flip, moved_within, raise_way, tap_by}
use Rattle.fd_settle.proofs.Fitting.{Wants, decided_each, moves_within, sample_wants, stays_within}
use Rattle.fd_settle.proofs.Lists.{each_both, each_filter, each_weaker, pair_at as apart_at, pairs_filter}
use Rattle.fd_settle.proofs.Reactions.{sampled_alone, sampled_keeps}

-- ---- one entry

-- what acts keep of the positions
record Keeps (m n : Machine) : Type 0 where
  taps : length n.at.taps ≡ length m.at.taps
  closed : length n.at.closed ≡ length m.at.closed
  within : All AreTaps n.at.taps

-- a control can move its device at these positions by a decision, which goes this way
abbrev CanMove : Probe → Decision → Bool → Positions → Type 0
CanMove (probe.Regulator p) d up at =
    (way_of d ≡ Some up) × (p.transformer < length at.taps)
    × MovesWithin (tap_of p.is_second (pair_at at p.transformer)) p.tap_step d
CanMove (probe.Bank p) d up at = Unit {0}

moved_keeps : (rule : Rule) (p : Probe) (d : Decision) (m : Machine) (e : Entry) → CanMove p d e.up m.at → All AreTaps m.at.taps
    → Keeps m (moved_by rule (control_of p) d m e)
moved_keeps rule (probe.Regulator p) d m e can taps =
    let pair = pair_at m.at p.transformer in
    let after = λ (u : Bool). set_tap p.is_second (moved_tap u (tap_of p.is_second pair) (steps_of d * p.tap_step)) pair in
    let within = moved_within p.is_second pair d p.tap_step (taps p.transformer no_taps can.1) can.2 in
    record {
      taps = length-set m.at.taps p.transformer (after e.up);
      closed = refl;
      within = All-set AreTaps m.at.taps p.transformer (after e.up) (subst (λ u. AreTaps (after u)) (raise_way d e.up can.0) within) taps;
    }
moved_keeps rule (probe.Bank p) d m e can taps = record { taps = refl; closed = length-set m.at.closed p.bank e.up; within = taps }

-- a control of another device can move as before
other_moves : (rule : Rule) (p q : Probe) → AreApart p q → (d c : Decision) (m : Machine) (e : Entry) (up : Bool)
    → CanMove p d e.up m.at → CanMove q c up m.at → CanMove q c up (moved_by rule (control_of p) d m e).at
other_moves rule (probe.Regulator p) (probe.Regulator q) apart d c m e up can own =
    let tap = moved_tap e.up (tap_of p.is_second (pair_at m.at p.transformer)) (steps_of d * p.tap_step) in
    let same = tap_by m.at.taps p.transformer q.transformer p.is_second q.is_second tap can.1
    (cases_eq p.transformer q.transformer) apart in (
      own.0,
      omega (arith, own.1, length-set m.at.taps p.transformer (set_tap p.is_second tap (pair_at m.at p.transformer))),
      subst (λ t. MovesWithin t q.tap_step c) (sym same) own.2,
    )
other_moves rule (probe.Regulator p) (probe.Bank q) apart d c m e up can own = tt
other_moves rule (probe.Bank p) (probe.Regulator q) apart d c m e up can own = own
other_moves rule (probe.Bank p) (probe.Bank q) apart d c m e up can own = tt

-- ---- entries one after another

pub some_probe : (ps : List Probe) (k : ℕ) → k < length ps → Probe
some_probe [] k l = absurd (omega (arith, l))
some_probe (p ∷ ps) k l = p

module _ (rule : Rule) (ps : List Probe) (apart : InPairs AreApart ps) (vs : List Decision) (limit : ℕ) where
  abbrev setup : Setup
  setup = record { rule = rule; controls = map control_of ps; limit = limit }

  -- the control of an entry can move
  abbrev EntryMoves : Positions → Entry → Type 0
  EntryMoves at e =
      (e.control < length ps)
      × ((q : Probe) → CanMove (get_or ps e.control q) (get_or vs e.control Hold) e.up at)

  moved_is : (m : Machine) (e : Entry) (q : Probe) → e.control < length ps
      → moved_by rule (control_of (get_or ps e.control q)) (get_or vs e.control Hold) m e ≡ moved setup vs m e
  moved_is m e q l =
      ap (λ c. moved_by rule c (get_or vs e.control Hold) m e) (sym (get_or-map control_of ps e.control q no_control l))

  others_move : (m : Machine) (e : Entry) (es : List Entry) → EntryMoves m.at e
      → AllByRecursion (λ x. e.control ≢ x.control) es → AllByRecursion (EntryMoves m.at) es
      → AllByRecursion (EntryMoves (moved setup vs m e).at) es
  others_move m e [] own differs can = tt
  others_move m e (x ∷ es) own differs can = (
    (
      can.0.0,
      λ q. subst (λ (n : Machine). CanMove (get_or ps x.control q) (get_or vs x.control Hold) x.up n.at) (moved_is m e q own.0)
          (other_moves rule (get_or ps e.control q) (get_or ps x.control q)
          (apart_at AreApart apart_flip ps e.control x.control q q apart differs.0 own.0 can.0.0)
          (get_or vs e.control Hold) (get_or vs x.control Hold) m e x.up (own.1 q) (can.0.1 q)),
    ),
    others_move m e es own differs.1 can.1,
  )

  all_keep : (es : List Entry) (m : Machine) → AllByRecursion (EntryMoves m.at) es → HaveOneEach es
      → All AreTaps m.at.taps → Keeps m (fold (moved setup vs) m es)
  all_keep [] m can one taps = record { taps = refl; closed = refl; within = taps }
  all_keep (e ∷ es) m can one taps =
      let q = some_probe ps e.control can.0.0 in
      let first : Keeps m (moved setup vs m e) =
      subst (Keeps m) (moved_is m e q can.0.0) (moved_keeps rule (get_or ps e.control q) (get_or vs e.control Hold) m e (can.0.1 q) taps) in
      let rest = all_keep es (moved setup vs m e) (others_move m e es can.0 one.0 can.1) one.1 first.within in
      record { taps = rest.taps ∙ first.taps; closed = rest.closed ∙ first.closed; within = rest.within }

-- ---- sampling leaves the positions

sampled_at : (k : ℕ) (cs : List Control) (vs : List Decision) (m : Machine) → (sampled k cs vs m).at ≡ m.at
sampled_at k cs vs m = ap (λ (x : Machine). x.at) (sampled_alone k cs vs m)

-- ---- a control moves as its sample decides

-- each control wants what its sample decides
pub wants_each : (ps : List Probe) (at : Positions) (y : Claim) (vs : List Decision)
    → sampling_of 0 (map (λ p. sample_over p at y.centre y.radii) ps) ≡ Decided vs → (k : ℕ) (q : Probe) → k < length ps
    → Wants (get_or ps k q) at (get_or vs k Hold)
wants_each ps at y vs look k q l =
    let f : Probe → Result Decision Undecided = λ p. sample_over p at y.centre y.radii in
    let p = get_or ps k q in
    let here : get_or (map f ps) k (f p) ≡ f p = get_or-map f ps k p (f p) l ∙ ap f (same_default ps k p q l) in
    sample_wants p at y.centre y.radii (get_or vs k Hold)
    (sym here ∙ (decided_each 0 (map f ps) vs look).decided k (f p) (omega (arith, l, length-map ps f)))
  where
    same_default : (xs : List Probe) (k : ℕ) (a b : Probe) → k < length xs → get_or xs k a ≡ get_or xs k b
    same_default [] k a b l = absurd (omega (arith, l))
    same_default (x ∷ xs) zero a b l = refl
    same_default (x ∷ xs) (suc k) a b l = same_default xs k a b (omega (arith, l))

entry_moves : TapLaw → (at : Positions) (p : Probe) (d : Decision) (up : Bool) → HasRange p → HasDevice at p → Wants p at d
    → way_of d ≡ Some up → CanMove p d up at
entry_moves taps at (probe.Regulator p) d up range device wants way =
    let tap = tap_of p.is_second (pair_at at p.transformer) in
    (way, device, moves_within (settings_of p) tap d up (stays_within taps p at d wants) way range.0 range.1)
entry_moves taps at (probe.Bank p) d up range device wants way = tt

-- ---- a step

-- P of what a step leaves
left_of_step : (P : Machine → Type 0) (x : Step) → Leaves P x → P (left_by (outcome_after x))
left_of_step P (Quiet m) h = h
left_of_step P (AtLimit m) h = h
left_of_step P (Acts m acts) h = h

leaves_by : (P : Machine → Type 0) (t u : Bool) (m after : Machine) (acts : List Act) → P m → P after
    → Leaves P (cond (not t) (Quiet m) (cond u (AtLimit m) (Acts after acts)))
leaves_by P true true m after acts h k = h
leaves_by P true false m after acts h k = k
leaves_by P false u m after acts h k = h

module _ (queue_law : QueueLaw) (own_law : OwnLaw) (tap_law : TapLaw) (rule : Rule) (ps : List Probe) (ranges : All HasRange ps)
    (apart : InPairs AreApart ps) (limit : ℕ) (m : Machine) (devices : All (HasDevice m.at) ps)
    (taps : All AreTaps m.at.taps) (y : Claim) where
  abbrev s : Setup
  s = setup rule ps apart [] limit

  abbrev f : Probe → Result Decision Undecided
  f p = sample_over p m.at y.centre y.radii

  module _ (queue : KeepsQueue (length s.controls) m) (vs : List Decision)
      (look : sampling_of 0 (map f ps) ≡ Decided vs) where
    abbrev n : Machine
    n = sampled 0 s.controls vs m

    each : length vs ≡ length s.controls
    each = (decided_each 0 (map f ps) vs look).each ∙ length-map ps f ∙ sym (length-map ps control_of)

    entry_can : (e : Entry) → (e.control < length s.controls) × (way_of (get_or vs e.control Hold) ≡ Some e.up)
        → EntryMoves rule ps apart vs limit n.at e
    entry_can e h =
        let l : e.control < length ps = omega (arith, h.0, length-map ps control_of) in (
          l,
          λ q. subst (CanMove (get_or ps e.control q) (get_or vs e.control Hold) e.up) (sym (sampled_at 0 s.controls vs m))
              (entry_moves tap_law m.at (get_or ps e.control q) (get_or vs e.control Hold) e.up (ranges e.control q l)
              (devices e.control q l) (wants_each ps m.at y vs look e.control q l) h.1),
        )

    after_acts : Keeps m (all_acted s vs n)
    after_acts =
        let after = sampled_keeps queue_law s.controls vs m queue in
        let own = own_law s vs m queue each in
        let can = each_weaker (λ e. (e.control < length s.controls) × (way_of (get_or vs e.control Hold) ≡ Some e.up))
        (EntryMoves rule ps apart vs limit n.at) entry_can n.queue
        (each_both (λ e. e.control < length s.controls) (λ e. way_of (get_or vs e.control Hold) ≡ Some e.up) n.queue after.controls own) in
        let at : n.at ≡ m.at = sampled_at 0 s.controls vs m in
        let kept = all_keep rule ps apart vs limit (nearest n.queue) (record n { queue = later n.queue })
        (each_filter (EntryMoves rule ps apart vs limit n.at) _ n.queue can) (pairs_filter _ _ n.queue after.queue.one_each)
        (subst (λ (p : Positions). All AreTaps p.taps) (sym at) taps) in
        record {
          taps = kept.taps ∙ ap (λ (p : Positions). length p.taps) at;
          closed = kept.closed ∙ ap (λ (p : Positions). length p.closed) at;
          within = kept.within;
        }

    step_keeps : Leaves (Keeps m) (step_of s vs m)
    unfolding step_of
    step_keeps =
        let at : n.at ≡ m.at = sampled_at 0 s.controls vs m in
        leaves_by (Keeps m) (list_any (s.rule.is_due n.now) n.queue) (nat_le s.limit n.made) n (all_acted s vs n)
        (acts_of s vs n (nearest n.queue)) (record {
          taps = ap (λ (p : Positions). length p.taps) at;
          closed = ap (λ (p : Positions). length p.closed) at;
          within = subst (λ (p : Positions). All AreTaps p.taps) (sym at) taps;
        }) after_acts

-- ---- a round of a circuit

pub all_taken : (P : Probe → Type 0) (mode : ControlMode) (ps : List Probe) → All P ps → All P (taking_part mode ps)
all_taken P control_mode.Off ps h = All-nil P
all_taken P control_mode.Static ps h = h
all_taken P control_mode.Time ps h = h

pairs_taken : (mode : ControlMode) (ps : List Probe) → InPairs AreApart ps → InPairs AreApart (taking_part mode ps)
pairs_taken control_mode.Off ps h = tt
pairs_taken control_mode.Static ps h = h
pairs_taken control_mode.Time ps h = h

pub machine_kept : QueueLaw → OwnLaw → TapLaw → KeptLaw
machine_kept queue_law own_law tap_law c powers m y ready range keys h = by (look_over (controls_in c) m.at y) refl
  where
    by : (w : Sampling) → look_over (controls_in c) m.at y ≡ w → IsMachineOf c powers (left_by (outcome_of (setup_of c) m w))
    by (Unclear k u) is = h
    by (Decided vs) is =
        let kept = probes_kept c ready range keys in
        let mode = c.options.controlmode in
        let all = probes_of c.elements in
        let keeps = left_of_step (Keeps m) (step_of (setup_of c) vs m)
        (step_keeps queue_law own_law tap_law (rule_of (timing_of mode)) (controls_in c) (all_taken HasRange mode all kept.ranges)
        (pairs_taken mode all kept.apart) c.options.maxcontroliter m
        (all_taken (HasDevice m.at) mode all (kept.devices m.at h.positions.counts.taps h.positions.counts.closed))
        h.positions.taps y h.queue vs is) in
        record {
          positions = record {
            counts = record {
              taps = keeps.taps ∙ h.positions.counts.taps;
              closed = keeps.closed ∙ h.positions.counts.closed;
              powers = h.positions.counts.powers;
            };
            taps = keeps.within;
          };
          queue = left_of_step (KeepsQueue (length (setup_of c).controls)) (step_of (setup_of c) vs m)
              (queue_law (setup_of c) vs m h.queue);
        }
