-- An entry acts: what it leaves of the machine, of the controls and of their devices.
use Rattle.std.proofs.Common.{◌≡◌, ◌≢◌, ◌⊎◌, inl, inr, ℕ, zero, suc, ◌+◌, ◌*◌, ◌<◌, ◌≤◌, Bool, true, false, cond, List, [], ◌∷◌, ◌++◌, map, take, drop, length, get_or, set, Option, Some, None, refl, sym, ap, subst, ◌∙◌, arith}
use Rattle.std.specs.Prelude.{All, ◌^◌, ◌-◌}
use Rattle.std.specs.List.{AllByRecursion, fold}
use Rattle.std.proofs.Math.Seq.{map-set_same}
use Rattle.std.proofs.lemmas.Bool.{cases_eq}
use Rattle.std.proofs.lemmas.List.Elements.{All-set}
use Rattle.std.proofs.lemmas.List.{drop_more, get_or-map, get_or-set_other, get_or-set_same, length-map, length-set, length_push, map-set, set-get_or, take_all}
use Rattle.std.proofs.lemmas.List.Sums.{fold_more}
use Rattle.fd_inject.specs.fd_arith.declared.terms.TapPair.{TapPair}
use Rattle.fd_sample.specs.fd_xfmr.Leakage.{AreTaps}
use Rattle.fd_sample.specs.fd_capctl.CapState.{IsEarly, opened_at}
use Rattle.fd_sample.specs.fd_queue.Controls.{moved_tap, no_taps, set_tap, tap_of}
use Rattle.fd_sample.specs.fd_queue.Decisions.{Decision, Raise, Hold, Lower, is_raise, steps_of, way_of}
use Rattle.fd_sample.specs.fd_queue.Machine.{Act, Machine, Setup, Rule, acted, acts_of, moved, moved_by, no_control, rule_of, signed_steps}
use Rattle.fd_sample.specs.fd_queue.declared.timing.Timing.{Timing}
use Rattle.fd_sample.specs.fd_queue.declared.timing.Timing.TheVariants as timing
use Rattle.fd_sample.specs.fd_queue.Queue.{HaveOneEach, InPairs}
use Rattle.fd_sample.specs.fd_queue.declared.entry.Entry.{Entry}
use Rattle.fd_sample.specs.fd_regctl.RegState.{moved_pair}
use Rattle.fd_sample.specs.declared.probe.Probe.{Probe}
use Rattle.fd_sample.specs.declared.probe.Probe.TheVariants as probe
use Rattle.fd_sample.specs.Circuits.{AreApart, HasRange}
use Rattle.fd_sample.specs.Probes.{HasDevice, control_of}
use Rattle.fd_settle.specs.declared.state.ControlState.{ControlState}
use Rattle.fd_settle.specs.declared.state.ControlState.TheVariants as state
use Rattle.fd_settle.specs.Acting.{AllCanAct, AreStanding, CanAct, FitsDevice, HasPlace, MovesWithin, act_of, acted_closed, acted_opened, acted_state, acted_taps, acting, control_in, controls_of, setup_of_states, verdict_in}
use Rattle.fd_settle.specs.Controls.{AreStates, IsStateOf, OpensEarly, moved_in, probe_in}
use Rattle.fd_settle.proofs.Lists.{all_or, each_at, each_drop, each_weaker, pair_at}
use Rattle.fd_settle.proofs.Reactions.{same_control}

-- ---- one entry of the machine

pub raise_way : (d : Decision) (up : Bool) → way_of d ≡ Some up → is_raise d ≡ up
raise_way (Raise zero) up h = absurd (cc)
raise_way (Raise (suc n)) up h = cc
raise_way Hold up h = absurd (cc)
raise_way (Lower zero) up h = absurd (cc)
raise_way (Lower (suc n)) up h = cc

-- where a bank closes, its last opening time stays
opened_by : (up : Bool) (time bank : ℕ) (o : Option ℕ) (opened : List (Option ℕ)) → o ≡ get_or opened bank None →
    cond up opened (set opened bank (Some time)) ≡ set opened bank (opened_at time up o)
opened_by true time bank o opened h = sym (set-get_or opened bank None) ∙ ap (set opened bank) (sym h)
opened_by false time bank o opened h = refl

moved_once : (rule : Rule) (now : ℕ) (taps : List TapPair) (closed : List Bool) (opened : List (Option ℕ)) (ss : List ControlState) (m : Machine) (s : ControlState) (e : Entry) →
    IsStateOf opened e.control s → way_of (verdict_in s) ≡ Some e.up →
    moved_by rule (control_in s) (verdict_in s) (acting now taps closed opened ss m) e
    ≡ acting now (acted_taps s taps) (acted_closed s closed) (acted_opened (rule.acts_at now e) s opened)
    (set ss e.control (acted_state (rule.acts_at now e) s)) m
moved_once rule now taps closed opened ss m (state.Regulator p s) e h w =
    let up : e.up ≡ is_raise s.verdict = sym (raise_way s.verdict e.up w) in
    let pair = get_or taps p.transformer no_taps in
    ap (λ (u : Bool). record m {
      at = record {
        taps = set taps p.transformer (set_tap s.is_second (moved_tap u (tap_of s.is_second pair) (steps_of s.verdict * s.tap_step)) pair);
        closed = closed;
      };
      now = now;
      opened = opened;
      moves = set (map moved_in ss) e.control (Some u);
    }) up
    ∙ ap (λ (ms : List (Option Bool)). record m {
      at = record { taps = set taps p.transformer (moved_pair s pair); closed = closed };
      now = now;
      opened = opened;
      moves = ms;
    }) (sym (map-set moved_in ss e.control (acted_state (rule.acts_at now e) (state.Regulator p s))))
moved_once rule now taps closed opened ss m (state.Bank p s) e h w =
    let up : e.up ≡ is_raise s.verdict = sym (raise_way s.verdict e.up w) in
    ap (λ (u : Bool). record m {
      at = record { taps = taps; closed = set closed p.bank u };
      now = now;
      opened = cond u opened (set opened p.bank (Some (rule.acts_at now e)));
      moves = set (map moved_in ss) e.control (Some u);
    }) up
    ∙ ap (λ (os : List (Option ℕ)). record m {
      at = record { taps = taps; closed = set closed p.bank (is_raise s.verdict) };
      now = now;
      opened = os;
      moves = set (map moved_in ss) e.control (Some (is_raise s.verdict));
    }) (opened_by (is_raise s.verdict) (rule.acts_at now e) p.bank s.opened opened h.1.1.1.1)
    ∙ ap (λ (ms : List (Option Bool)). record m {
      at = record { taps = taps; closed = set closed p.bank (is_raise s.verdict) };
      now = now;
      opened = set opened p.bank (opened_at (rule.acts_at now e) (is_raise s.verdict) s.opened);
      moves = ms;
    }) (sym (map-set moved_in ss e.control (acted_state (rule.acts_at now e) (state.Bank p s))))

acted_once : (rule : Rule) (now : ℕ) (taps : List TapPair) (closed : List Bool) (opened : List (Option ℕ)) (ss : List ControlState) (m : Machine) (s : ControlState) (e : Entry) →
    IsStateOf opened e.control s → way_of (verdict_in s) ≡ Some e.up → HasPlace taps closed opened s →
    acted rule (control_in s) (verdict_in s) (acting now taps closed opened ss m) e ≡ act_of s (rule.acts_at now e) e taps
acted_once rule now taps closed opened ss m (state.Regulator p s) e h w l =
    let up : e.up ≡ is_raise s.verdict = sym (raise_way s.verdict e.up w) in
    let pair = get_or taps p.transformer no_taps in
    ap (λ (u : Bool). record {
      time = rule.acts_at now e;
      control = e.control;
      steps = signed_steps u (steps_of s.verdict);
      after = tap_of s.is_second (get_or (set taps p.transformer
          (set_tap s.is_second (moved_tap u (tap_of s.is_second pair) (steps_of s.verdict * s.tap_step)) pair))
          p.transformer no_taps);
    }) up
    ∙ ap (λ (t : TapPair). record {
      time = rule.acts_at now e;
      control = e.control;
      steps = signed_steps (is_raise s.verdict) (steps_of s.verdict);
      after = tap_of s.is_second t;
    }) (get_or-set_same taps p.transformer (moved_pair s pair) no_taps l)
    ∙ ap (λ (b : Bool). record {
      time = rule.acts_at now e;
      control = e.control;
      steps = signed_steps (is_raise s.verdict) (steps_of s.verdict);
      after = tap_of b (moved_pair s pair);
    }) h.1.0
acted_once rule now taps closed opened ss m (state.Bank p s) e h w l =
    let up : e.up ≡ is_raise s.verdict = sym (raise_way s.verdict e.up w) in
    ap (λ (u : Bool). record {
      time = rule.acts_at now e;
      control = e.control;
      steps = signed_steps u (steps_of s.verdict);
      after = cond (get_or (set closed p.bank u) p.bank false) 1 0;
    }) up
    ∙ ap (λ (b : Bool). record {
      time = rule.acts_at now e;
      control = e.control;
      steps = signed_steps (is_raise s.verdict) (steps_of s.verdict);
      after = cond b 1 0;
    }) (get_or-set_same closed p.bank (is_raise s.verdict) false l.0)

-- ---- what an act leaves of the controls

same_after : (time : ℕ) (s : ControlState) → probe_in (acted_state time s) ≡ probe_in s
same_after time (state.Regulator p s) = refl
same_after time (state.Bank p s) = refl

same_verdict : (time : ℕ) (s : ControlState) → verdict_in (acted_state time s) ≡ verdict_in s
same_verdict time (state.Regulator p s) = refl
same_verdict time (state.Bank p s) = refl

pub same_probes : (time k : ℕ) (ss : List ControlState) (d : ControlState)
    → map probe_in (set ss k (acted_state time (get_or ss k d))) ≡ map probe_in ss
same_probes time k ss d = map-set_same probe_in ss k (acted_state time (get_or ss k d)) d (same_after time (get_or ss k d))

pub same_verdicts : (time k : ℕ) (ss : List ControlState) (d : ControlState) →
    map verdict_in (set ss k (acted_state time (get_or ss k d))) ≡ map verdict_in ss
same_verdicts time k ss d = map-set_same verdict_in ss k (acted_state time (get_or ss k d)) d (same_verdict time (get_or ss k d))

-- the control itself
own_state : (opened : List (Option ℕ)) (taps : List TapPair) (closed : List Bool) (time k : ℕ) (s : ControlState)
    → IsStateOf opened k s →
    HasPlace taps closed opened s → IsStateOf (acted_opened time s opened) k (acted_state time s)
own_state opened taps closed time k (state.Regulator p s) h l = h
own_state opened taps closed time k (state.Bank p s) h l =
    (h.0, (h.1.0, (h.1.1.0, (h.1.1.1.0, sym (get_or-set_same opened p.bank (opened_at time (is_raise s.verdict) s.opened) None l.1)))))

-- another control
other_state : (opened : List (Option ℕ)) (time j : ℕ) (s x : ControlState) → AreApart (probe_in s) (probe_in x)
    → IsStateOf opened j x →
    IsStateOf (acted_opened time s opened) j x
other_state opened time j (state.Regulator p s) x a h = h
other_state opened time j (state.Bank p s) (state.Regulator q x) a h = h
other_state opened time j (state.Bank p s) (state.Bank q x) a h = (
  h.0,
  (
    h.1.0,
    (
      h.1.1.0,
      (
        h.1.1.1.0,
        h.1.1.1.1 ∙ sym (get_or-set_other opened p.bank q.bank (opened_at time (is_raise s.verdict) s.opened) None (λ e. a (sym e))),
      ),
    ),
  ),
)

pub apart_flip : (p q : Probe) → AreApart p q → AreApart q p
apart_flip (probe.Regulator p) (probe.Regulator q) h = λ e f. h (sym e) (sym f)
apart_flip (probe.Regulator p) (probe.Bank q) h = tt
apart_flip (probe.Bank p) (probe.Regulator q) h = tt
apart_flip (probe.Bank p) (probe.Bank q) h = λ e. h (sym e)

-- two controls of different numbers
pub two_apart : (ss : List ControlState) (i j : ℕ) (d e : ControlState) → InPairs AreApart (map probe_in ss) → i ≢ j
    → i < length ss → j < length ss →
    AreApart (probe_in (get_or ss i d)) (probe_in (get_or ss j e))
two_apart ss i j d e h n l m =
    let n₁ = length-map ss probe_in in
    subst (λ p. AreApart p (probe_in (get_or ss j e))) (get_or-map probe_in ss i d (probe_in d) l)
    (subst (λ p. AreApart (get_or (map probe_in ss) i (probe_in d)) p) (get_or-map probe_in ss j e (probe_in e) m)
    (pair_at AreApart apart_flip (map probe_in ss) i j (probe_in d) (probe_in e) h n (omega (arith, n₁)) (omega (arith, n₁))))

states_by : (opened opened' : List (Option ℕ)) (ss : List ControlState) (k j : ℕ) (new d : ControlState)
    → (j ≡ k) ⊎ (j ≢ k) →
    IsStateOf opened' k new → (j ≢ k → j < length ss → IsStateOf opened' j (get_or ss j d)) → k < length ss → j < length ss →
    IsStateOf opened' j (get_or (set ss k new) j d)
states_by opened opened' ss k j new d (inl e) own others l m =
    subst (λ i. IsStateOf opened' i (get_or (set ss k new) i d)) (sym e) (subst (IsStateOf opened' k) (sym (get_or-set_same ss k new d l)) own)
states_by opened opened' ss k j new d (inr n) own others l m =
    subst (IsStateOf opened' j) (sym (get_or-set_other ss k j new d n)) (others n m)

pub acted_states : (opened : List (Option ℕ)) (taps : List TapPair) (closed : List Bool) (ss : List ControlState) (time k : ℕ) (d : ControlState) →
    AreStates opened ss → InPairs AreApart (map probe_in ss) → k < length ss → HasPlace taps closed opened (get_or ss k d) →
    AreStates (acted_opened time (get_or ss k d) opened) (set ss k (acted_state time (get_or ss k d)))
acted_states opened taps closed ss time k d are apart l place = λ j e m.
    let s = get_or ss k d in
    let n = length-set ss k (acted_state time s) in
    states_by opened (acted_opened time s opened) ss k j (acted_state time s) e (cases_eq j k)
    (own_state opened taps closed time k s (are k d l) place)
    (λ differs fits. other_state opened time j s (get_or ss j e) (two_apart ss k j d e apart (λ q. differs (sym q)) l fits) (are j e fits))
    l (omega (arith, n))

-- ---- what an act leaves of the devices

pub place_of : (taps : List TapPair) (closed : List Bool) (opened : List (Option ℕ)) (s : ControlState)
    → length opened ≡ length closed →
    HasDevice (record { taps = taps; closed = closed }) (probe_in s) → HasPlace taps closed opened s
place_of taps closed opened (state.Regulator p s) e h = h
place_of taps closed opened (state.Bank p s) e h = (h, omega arith)

pub same_taps : (s : ControlState) (taps : List TapPair) → length (acted_taps s taps) ≡ length taps
same_taps (state.Regulator p s) taps = length-set taps p.transformer (moved_pair s (get_or taps p.transformer no_taps))
same_taps (state.Bank p s) taps = refl

pub same_closed : (s : ControlState) (closed : List Bool) → length (acted_closed s closed) ≡ length closed
same_closed (state.Regulator p s) closed = refl
same_closed (state.Bank p s) closed = length-set closed p.bank (is_raise s.verdict)

pub same_opened : (time : ℕ) (s : ControlState) (opened : List (Option ℕ))
    → length (acted_opened time s opened) ≡ length opened
same_opened time (state.Regulator p s) opened = refl
same_opened time (state.Bank p s) opened = length-set opened p.bank (opened_at time (is_raise s.verdict) s.opened)

has_device : (taps taps' : List TapPair) (closed closed' : List Bool) (p : Probe) → length taps' ≡ length taps
    → length closed' ≡ length closed →
    HasDevice (record { taps = taps; closed = closed }) p → HasDevice (record { taps = taps'; closed = closed' }) p
has_device taps taps' closed closed' (probe.Regulator p) e f h = omega arith
has_device taps taps' closed closed' (probe.Bank p) e f h = omega arith

-- a pair of which one tap moved within the range
pair_within : (is_second : Bool) (pair : TapPair) (tap : ℕ) → AreTaps pair → 50000 ≤ tap → tap ≤ 200000
    → AreTaps (set_tap is_second tap pair)
pair_within true pair tap h l m = record { first_least = h.first_least; first_most = h.first_most; second_least = l; second_most = m }
pair_within false pair tap h l m = record { first_least = l; first_most = m; second_least = h.second_least; second_most = h.second_most }

tap_within : (is_second : Bool) (pair : TapPair) → AreTaps pair
    → (50000 ≤ tap_of is_second pair) × (tap_of is_second pair ≤ 200000)
tap_within true pair h = (h.second_least, h.second_most)
tap_within false pair h = (h.first_least, h.first_most)

pub moved_within : (is_second : Bool) (pair : TapPair) (d : Decision) (step : ℕ) → AreTaps pair
    → MovesWithin (tap_of is_second pair) step d →
    AreTaps (set_tap is_second (moved_tap (is_raise d) (tap_of is_second pair) (steps_of d * step)) pair)
moved_within is_second pair (Raise n) step h m =
    let t = tap_within is_second pair h in pair_within is_second pair (tap_of is_second pair + n * step) h (omega (arith, t.0)) m
moved_within is_second pair Hold step h m = absurd m
moved_within is_second pair (Lower n) step h m =
    let t = tap_within is_second pair h in pair_within is_second pair (tap_of is_second pair - n * step) h (omega (arith, m)) (omega (arith, t.1))

pub acted_within : (s : ControlState) (taps : List TapPair) (closed : List Bool) (opened : List (Option ℕ))
    → All AreTaps taps → HasPlace taps closed opened s →
    FitsDevice taps s → All AreTaps (acted_taps s taps)
acted_within (state.Regulator p s) taps closed opened h l f = All-set AreTaps taps p.transformer (moved_pair s (get_or taps p.transformer no_taps))
    (moved_within s.is_second (get_or taps p.transformer no_taps) s.verdict s.tap_step (h p.transformer no_taps l) f.1) h
acted_within (state.Bank p s) taps closed opened h l f = h

early_by : (time : ℕ) (up : Bool) (o : Option ℕ) → IsEarly o → (up ≡ false → time < 2 ^ 62)
    → IsEarly (opened_at time up o)
early_by time true o h l = h
early_by time false o h l = l refl

pub acted_early : (time : ℕ) (s : ControlState) (e : Entry) (opened : List (Option ℕ)) → IsStateOf opened e.control s
    → way_of (verdict_in s) ≡ Some e.up →
    (e.up ≡ false → time < 2 ^ 62) → All IsEarly opened → All IsEarly (acted_opened time s opened)
acted_early time (state.Regulator p s) e opened h w o early = early
acted_early time (state.Bank p s) e opened h w o early =
    let up : e.up ≡ is_raise s.verdict = sym (raise_way s.verdict e.up w) in
    let was : IsEarly s.opened = subst IsEarly (sym h.1.1.1.1) (all_or IsEarly opened p.bank None early tt) in
    All-set IsEarly opened p.bank (opened_at time (is_raise s.verdict) s.opened)
    (early_by time (is_raise s.verdict) s.opened was (λ f. o (up ∙ f))) early

pub standing_place : (taps : List TapPair) (closed : List Bool) (opened : List (Option ℕ)) (ss : List ControlState) (k : ℕ) (d : ControlState) →
    AreStanding taps closed opened ss → k < length ss → HasPlace taps closed opened (get_or ss k d)
standing_place taps closed opened ss k d h l =
    let n = length-map ss probe_in in
    place_of taps closed opened (get_or ss k d) h.each
    (subst (HasDevice (record { taps = taps; closed = closed })) (get_or-map probe_in ss k d (probe_in d) l) (h.devices k (probe_in d) (omega (arith, n))))

-- an entry that opens a bank acts early
pub acts_early : (timing : Timing) (now : ℕ) (e : Entry) → now < 2 ^ 62 → OpensEarly e
    → e.up ≡ false → (rule_of timing).acts_at now e < 2 ^ 62
acts_early timing.Static now e soon opens h = opens h
acts_early timing.Clock now e soon opens h = soon

-- the controls stand as before
pub acted_standing : (time : ℕ) (taps : List TapPair) (closed : List Bool) (opened : List (Option ℕ)) (ss : List ControlState) (e : Entry) (d : ControlState) →
    AreStanding taps closed opened ss → e.control < length ss → CanAct taps (get_or ss e.control d) e → (e.up ≡ false → time < 2 ^ 62) →
    AreStanding (acted_taps (get_or ss e.control d) taps) (acted_closed (get_or ss e.control d) closed)
    (acted_opened time (get_or ss e.control d) opened) (set ss e.control (acted_state time (get_or ss e.control d)))
acted_standing time taps closed opened ss e d h l can o =
    let s = get_or ss e.control d in
    let place = standing_place taps closed opened ss e.control d h l in
    let probes = same_probes time e.control ss d in
    record {
      states = acted_states opened taps closed ss time e.control d h.states h.apart l place;
      devices = λ k p m. has_device taps (acted_taps s taps) closed (acted_closed s closed) _ (same_taps s taps) (same_closed s closed)
          (subst (λ (ps : List Probe). All (HasDevice (record { taps = taps; closed = closed })) ps) (sym probes) h.devices k p m);
      ranges = subst (λ (ps : List Probe). All HasRange ps) (sym probes) h.ranges;
      apart = subst (λ (ps : List Probe). InPairs AreApart ps) (sym probes) h.apart;
      within = acted_within s taps closed opened h.within place can.fits;
      each = same_opened time s opened ∙ h.each ∙ sym (same_closed s closed);
      early = acted_early time s e opened (h.states e.control d l) can.way o h.early;
    }

-- ---- the entries after it

-- a tap of another winding
other_tap : (is_second : Bool) (other : Bool) (tap : ℕ) (pair : TapPair) → is_second ≢ other
    → tap_of other (set_tap is_second tap pair) ≡ tap_of other pair
other_tap true true tap pair n = absurd (n refl)
other_tap true false tap pair n = refl
other_tap false true tap pair n = refl
other_tap false false tap pair n = absurd (n refl)

pub tap_by : (taps : List TapPair) (i j : ℕ) (is_second other : Bool) (tap : ℕ) → i < length taps → (i ≡ j) ⊎ (i ≢ j)
    → (i ≡ j → is_second ≢ other) →
    tap_of other (get_or (set taps i (set_tap is_second tap (get_or taps i no_taps))) j no_taps) ≡ tap_of other (get_or taps j no_taps)
tap_by taps i j is_second other tap l (inl e) n =
    let pair = get_or taps i no_taps in
    subst (λ k. tap_of other (get_or (set taps i (set_tap is_second tap pair)) k no_taps) ≡ tap_of other (get_or taps k no_taps)) e
    (ap (tap_of other) (get_or-set_same taps i (set_tap is_second tap pair) no_taps l) ∙ other_tap is_second other tap pair (n e))
tap_by taps i j is_second other tap l (inr d) n =
    ap (tap_of other) (get_or-set_other taps i j (set_tap is_second tap (get_or taps i no_taps)) no_taps (λ e. d (sym e)))

other_fits : (taps : List TapPair) (closed : List Bool) (opened : List (Option ℕ)) (i j : ℕ) (s x : ControlState)
    → IsStateOf opened i s → IsStateOf opened j x →
    HasPlace taps closed opened s → AreApart (probe_in s) (probe_in x) → FitsDevice taps x → FitsDevice (acted_taps s taps) x
other_fits taps closed opened i j (state.Bank p s) x h k l a f = f
other_fits taps closed opened i j (state.Regulator p s) (state.Bank q x) h k l a f = f
other_fits taps closed opened i j (state.Regulator p s) (state.Regulator q x) h k l a f =
    let tap = moved_tap (is_raise s.verdict) (tap_of s.is_second (get_or taps p.transformer no_taps)) (steps_of s.verdict * s.tap_step) in
    let same = tap_by taps p.transformer q.transformer s.is_second x.is_second tap l (cases_eq p.transformer q.transformer)
    (λ e f. a e (sym h.1.0 ∙ f ∙ k.1.0)) in
    (f.0, subst (λ t. MovesWithin t x.tap_step x.verdict) (sym same) f.1)

-- another control can act as before
other_can : (time : ℕ) (taps : List TapPair) (closed : List Bool) (opened : List (Option ℕ)) (ss : List ControlState) (e x : Entry) (d : ControlState) →
    AreStanding taps closed opened ss → e.control < length ss → x.control < length ss → e.control ≢ x.control →
    ((c : ControlState) → CanAct taps (get_or ss x.control c) x) →
    (c : ControlState) → CanAct (acted_taps (get_or ss e.control d) taps) (get_or (set ss e.control (acted_state time (get_or ss e.control d))) x.control c) x
other_can time taps closed opened ss e x d h l m n can c =
    let s = get_or ss e.control d in
    let y = get_or ss x.control c in
    let here : get_or (set ss e.control (acted_state time s)) x.control c ≡ y =
    get_or-set_other ss e.control x.control (acted_state time s) c (λ q. n (sym q)) in
    let place = standing_place taps closed opened ss e.control d h l in
    let was = can c in
    subst (λ z. CanAct (acted_taps s taps) z x) (sym here) (record {
      control = was.control;
      way = was.way;
      fits = other_fits taps closed opened e.control x.control s y (h.states e.control d l) (h.states x.control c m) place
          (two_apart ss e.control x.control d c h.apart n l m) was.fits;
    })

pub others_can : (time : ℕ) (taps : List TapPair) (closed : List Bool) (opened : List (Option ℕ)) (ss : List ControlState)
    (e : Entry) (es : List Entry) (d : ControlState)
    → AreStanding taps closed opened ss → e.control < length ss → AllByRecursion (λ x. x.control < length ss) es
    → AllByRecursion (λ x. e.control ≢ x.control) es → AllCanAct taps ss es
    → AllCanAct (acted_taps (get_or ss e.control d) taps)
    (set ss e.control (acted_state time (get_or ss e.control d))) es
others_can time taps closed opened ss e [] d h l m n can = tt
others_can time taps closed opened ss e (x ∷ es) d h l m n can =
    (other_can time taps closed opened ss e x d h l m.0 n.0 can.0, others_can time taps closed opened ss e es d h l m.1 n.1 can.1)

-- ---- one entry more of the machine

acts_first : (s : Setup) (vs : List Decision) (m : Machine) (e : Entry) (es : List Entry)
    → acts_of s vs m (take 1 (e ∷ es))
    ≡ acted s.rule (get_or s.controls e.control no_control) (get_or vs e.control Hold) m e ∷ []
acts_first s vs m e es = refl

acts_more : (s : Setup) (vs : List Decision) (m : Machine) (es : List Entry) (k : ℕ) (d : Entry) → k < length es
    → acts_of s vs m (take (k + 1) es)
    ≡ acts_of s vs m (take k es) ++ acted s.rule (get_or s.controls (get_or es k d).control no_control)
    (get_or vs (get_or es k d).control Hold) (fold (moved s vs) m (take k es)) (get_or es k d) ∷ []
acts_more s vs m [] k d l = absurd (omega arith)
acts_more s vs m (e ∷ es) zero d l = acts_first s vs m e es
acts_more s vs m (e ∷ es) (suc k) d l =
    let next : suc k + 1 ≡ suc (k + 1) = omega arith in
    ap (λ n. acts_of s vs m (take n (e ∷ es))) next
    ∙ ap (λ xs. acted s.rule (get_or s.controls e.control no_control) (get_or vs e.control Hold) m e ∷ xs)
    (acts_more s vs (moved s vs m e) es k d (omega arith))

-- the control of an entry and its decision, as the machine names them
names_control : (ss₀ ss : List ControlState) (opened : List (Option ℕ)) (k : ℕ) (d : ControlState)
    → map probe_in ss ≡ map probe_in ss₀ → k < length ss →
    IsStateOf opened k (get_or ss k d) → get_or (controls_of ss₀) k no_control ≡ control_in (get_or ss k d)
names_control ss₀ ss opened k d probes l h =
    let n = length-map ss probe_in in
    ap (λ (ps : List Probe). get_or (map control_of ps) k no_control) (sym probes)
    ∙ get_or-map control_of (map probe_in ss) k (probe_in d) no_control (omega (arith, n))
    ∙ ap control_of (get_or-map probe_in ss k d (probe_in d) l) ∙ sym (same_control opened k (get_or ss k d) h)

names_verdict : (ss₀ ss : List ControlState) (k : ℕ) (d : ControlState) → map verdict_in ss ≡ map verdict_in ss₀
    → k < length ss →
    get_or (map verdict_in ss₀) k Hold ≡ verdict_in (get_or ss k d)
names_verdict ss₀ ss k d verdicts l = ap (λ (vs : List Decision). get_or vs k Hold) (sym verdicts) ∙ get_or-map verdict_in ss k d Hold l

-- ---- the loop over the entries

pub record IsActing (timing : Timing) (now : ℕ) (due : List Entry) (k : ℕ) (taps₀ taps : List TapPair) (closed₀ closed : List Bool) (opened₀ opened : List (Option ℕ))
    (ss₀ ss : List ControlState) (made : List Act) : Type 0 where
  pub machine : (limit : ℕ) (m : Machine) →
      fold (moved (setup_of_states timing limit ss₀) (map verdict_in ss₀)) (acting now taps₀ closed₀ opened₀ ss₀ m) (take k due) ≡ acting now taps closed opened ss m
  pub acts : (limit : ℕ) (m : Machine) →
      acts_of (setup_of_states timing limit ss₀) (map verdict_in ss₀) (acting now taps₀ closed₀ opened₀ ss₀ m) (take k due) ≡ made
  pub standing : AreStanding taps closed opened ss
  pub can_act : AllCanAct taps ss (drop k due)
  pub probes : map probe_in ss ≡ map probe_in ss₀
  pub verdicts : map verdict_in ss ≡ map verdict_in ss₀
  pub each_tap : length taps ≡ length taps₀
  pub each_closed : length closed ≡ length closed₀
  pub each_state : length ss ≡ length ss₀
  pub count : length made ≡ k

pub none_acted : (timing : Timing) (now : ℕ) (due : List Entry) (taps : List TapPair) (closed : List Bool) (opened : List (Option ℕ)) (ss : List ControlState) →
    AreStanding taps closed opened ss → AllCanAct taps ss due → IsActing timing now due 0 taps taps closed closed opened opened ss ss []
none_acted timing now due taps closed opened ss h can = record {
  machine = λ limit m. refl;
  acts = λ limit m. refl;
  standing = h;
  can_act = can;
  probes = refl;
  verdicts = refl;
  each_tap = refl;
  each_closed = refl;
  each_state = refl;
  count = refl;
}

-- the entry at a place, and those after it
pairs_drop : (es : List Entry) (k : ℕ) (d : Entry) → HaveOneEach es → k < length es →
    AllByRecursion (λ x. (get_or es k d).control ≢ x.control) (drop (k + 1) es)
pairs_drop [] k d h l = absurd (omega arith)
pairs_drop (e ∷ es) zero d h l = h.0
pairs_drop (e ∷ es) (suc k) d h l =
    let next : suc k + 1 ≡ suc (k + 1) = omega arith in
    subst (λ n. AllByRecursion (λ x. (get_or es k d).control ≢ x.control) (drop n (e ∷ es))) (sym next) (pairs_drop es k d h.1 (omega arith))

pub can_now : (due : List Entry) (taps : List TapPair) (ss : List ControlState) (k : ℕ) (d : Entry)
    → AllCanAct taps ss (drop k due) → k < length due →
    AllCanAct taps ss (get_or due k d ∷ drop (k + 1) due)
can_now due taps ss k d h l = subst (AllCanAct taps ss) (drop_more due k d l) h

next_by : (timing : Timing) (now time : ℕ) (due : List Entry) (k : ℕ) (taps₀ taps taps' : List TapPair) (closed₀ closed closed' : List Bool) (opened₀ opened opened' : List (Option ℕ))
    (ss₀ ss : List ControlState) (made : List Act) (e : Entry) (s new : ControlState) (a : Act) →
    taps' ≡ acted_taps s taps → closed' ≡ acted_closed s closed → opened' ≡ acted_opened time s opened → new ≡ acted_state time s → a ≡ act_of s time e taps →
    IsActing timing now due (k + 1) taps₀ (acted_taps s taps) closed₀ (acted_closed s closed) opened₀ (acted_opened time s opened) ss₀
    (set ss e.control (acted_state time s)) (made ++ act_of s time e taps ∷ []) →
    IsActing timing now due (k + 1) taps₀ taps' closed₀ closed' opened₀ opened' ss₀ (set ss e.control new) (made ++ a ∷ [])
next_by timing now time due k taps₀ taps taps' closed₀ closed closed' opened₀ opened opened' ss₀ ss made e s new a is_taps is_closed
    is_opened is_new is_act h =
    subst (λ x.
    IsActing timing now due (k + 1) taps₀ taps' closed₀ closed' opened₀ opened' ss₀ (set ss e.control new) (made ++ x ∷ []))
    (sym is_act) (subst (λ x.
    IsActing timing now due (k + 1) taps₀ taps' closed₀ closed' opened₀ opened' ss₀ (set ss e.control x)
    (made ++ act_of s time e taps ∷ [])) (sym is_new) (subst (λ x.
    IsActing timing now due (k + 1) taps₀ taps' closed₀ closed' opened₀ x ss₀ (set ss e.control (acted_state time s))
    (made ++ act_of s time e taps ∷ [])) (sym is_opened) (subst (λ x.
    IsActing timing now due (k + 1) taps₀ taps' closed₀ x opened₀ (acted_opened time s opened) ss₀
    (set ss e.control (acted_state time s)) (made ++ act_of s time e taps ∷ [])) (sym is_closed) (subst (λ x.
    IsActing timing now due (k + 1) taps₀ x closed₀ (acted_closed s closed) opened₀ (acted_opened time s opened) ss₀
    (set ss e.control (acted_state time s)) (made ++ act_of s time e taps ∷ [])) (sym is_taps) h))))

pub next_acted : (timing : Timing) (now time : ℕ) (due : List Entry) (k : ℕ) (taps₀ taps taps' : List TapPair) (closed₀ closed closed' : List Bool) (opened₀ opened opened' : List (Option ℕ))
    (ss₀ ss : List ControlState) (made : List Act) (d : Entry) (c new : ControlState) (a : Act) →
    IsActing timing now due k taps₀ taps closed₀ closed opened₀ opened ss₀ ss made → k < length due → HaveOneEach due →
    AllByRecursion (λ e. e.control < length ss₀) due → AllByRecursion OpensEarly due → now < 2 ^ 62 → time ≡ (rule_of timing).acts_at now (get_or due k d) →
    taps' ≡ acted_taps (get_or ss (get_or due k d).control c) taps → closed' ≡ acted_closed (get_or ss (get_or due k d).control c) closed →
    opened' ≡ acted_opened time (get_or ss (get_or due k d).control c) opened →
    new ≡ acted_state time (get_or ss (get_or due k d).control c) → a ≡ act_of (get_or ss (get_or due k d).control c) time (get_or due k d) taps →
    IsActing timing now due (k + 1) taps₀ taps' closed₀ closed' opened₀ opened' ss₀ (set ss (get_or due k d).control new) (made ++ a ∷ [])
next_acted timing now time due k taps₀ taps taps' closed₀ closed closed' opened₀ opened opened' ss₀ ss made d c new a h l one_each
    numbers early soon is_time is_taps is_closed is_opened is_new is_act =
    let e = get_or due k d in
    let s = get_or ss e.control c in
    let fits : e.control < length ss = omega (arith, each_at (λ x. x.control < length ss₀) due k d numbers l, h.each_state) in
    let state : IsStateOf opened e.control s = h.standing.states e.control c fits in
    let can = can_now due taps ss k d h.can_act l in
    let own : CanAct taps s e = can.0 c in
    let at = (rule_of timing).acts_at now e in
    let opens = acts_early timing now e soon (each_at OpensEarly due k d early l) in
    let place = standing_place taps closed opened ss e.control c h.standing fits in
    let later : AllByRecursion (λ x. x.control < length ss) (drop (k + 1) due) =
    each_weaker (λ x. x.control < length ss₀) (λ x. x.control < length ss) (λ x less. omega (arith, less, h.each_state)) (drop (k + 1) due)
    (each_drop (λ x. x.control < length ss₀) due (k + 1) numbers) in
    let control = names_control ss₀ ss opened e.control c h.probes fits state in
    let verdict = names_verdict ss₀ ss e.control c h.verdicts fits in
    let here = acting now taps closed opened ss in
    let n = length-set ss e.control new in
    next_by timing now at due k taps₀ taps taps' closed₀ closed closed' opened₀ opened opened' ss₀ ss made e s new a is_taps is_closed
    (is_opened ∙ ap (λ (t : ℕ). acted_opened t s opened) is_time) (is_new ∙ ap (λ (t : ℕ). acted_state t s) is_time)
    (is_act ∙ ap (λ (t : ℕ). act_of s t e taps) is_time) (record {
      machine = λ limit m.
          fold_more (moved (setup_of_states timing limit ss₀) (map verdict_in ss₀)) (acting now taps₀ closed₀ opened₀ ss₀ m) due k d l
          ∙ ap (λ x. moved (setup_of_states timing limit ss₀) (map verdict_in ss₀) x e) (h.machine limit m)
          ∙ ap (λ x. moved_by (rule_of timing) x (get_or (map verdict_in ss₀) e.control Hold) (here m) e) control
          ∙ ap (λ x. moved_by (rule_of timing) (control_in s) x (here m) e) verdict
          ∙ moved_once (rule_of timing) now taps closed opened ss m s e state own.way;
      acts = λ limit m.
          acts_more (setup_of_states timing limit ss₀) (map verdict_in ss₀) (acting now taps₀ closed₀ opened₀ ss₀ m) due k d l
          ∙ ap (λ xs. xs ++ acted (rule_of timing) (get_or (controls_of ss₀) e.control no_control)
          (get_or (map verdict_in ss₀) e.control Hold) (fold (moved (setup_of_states timing limit ss₀) (map verdict_in ss₀))
          (acting now taps₀ closed₀ opened₀ ss₀ m) (take k due)) e ∷ []) (h.acts limit m)
          ∙ ap (λ x. made ++ acted (rule_of timing) (get_or (controls_of ss₀) e.control no_control)
          (get_or (map verdict_in ss₀) e.control Hold) x e ∷ []) (h.machine limit m)
          ∙ ap (λ x. made ++ acted (rule_of timing) x (get_or (map verdict_in ss₀) e.control Hold) (here m) e ∷ []) control
          ∙ ap (λ x. made ++ acted (rule_of timing) (control_in s) x (here m) e ∷ []) verdict
          ∙ ap (λ x. made ++ x ∷ []) (acted_once (rule_of timing) now taps closed opened ss m s e state own.way place);
      standing = acted_standing at taps closed opened ss e c h.standing fits own opens;
      can_act = others_can at taps closed opened ss e (drop (k + 1) due) c h.standing fits later (pairs_drop due k d one_each l) can.1;
      probes = same_probes at e.control ss c ∙ h.probes;
      verdicts = same_verdicts at e.control ss c ∙ h.verdicts;
      each_tap = same_taps s taps ∙ h.each_tap;
      each_closed = same_closed s closed ∙ h.each_closed;
      each_state = length-set ss e.control (acted_state at s) ∙ h.each_state;
      count = length_push made (act_of s at e taps) ∙ ap (λ i. i + 1) h.count;
    })

-- all of them
pub all_acted_machine : (timing : Timing) (now : ℕ) (due : List Entry) (k limit : ℕ) (taps₀ taps : List TapPair) (closed₀ closed : List Bool) (opened₀ opened : List (Option ℕ))
    (ss₀ ss : List ControlState) (made : List Act) (m : Machine) → IsActing timing now due k taps₀ taps closed₀ closed opened₀ opened ss₀ ss made → length due ≤ k →
    fold (moved (setup_of_states timing limit ss₀) (map verdict_in ss₀)) (acting now taps₀ closed₀ opened₀ ss₀ m) due ≡ acting now taps closed opened ss m
all_acted_machine timing now due k limit taps₀ taps closed₀ closed opened₀ opened ss₀ ss made m h l =
    ap (fold (moved (setup_of_states timing limit ss₀) (map verdict_in ss₀)) (acting now taps₀ closed₀ opened₀ ss₀ m)) (sym (take_all k due l)) ∙ h.machine limit m

pub all_acted_acts : (timing : Timing) (now : ℕ) (due : List Entry) (k limit : ℕ) (taps₀ taps : List TapPair) (closed₀ closed : List Bool) (opened₀ opened : List (Option ℕ))
    (ss₀ ss : List ControlState) (made : List Act) (m : Machine) → IsActing timing now due k taps₀ taps closed₀ closed opened₀ opened ss₀ ss made → length due ≤ k →
    acts_of (setup_of_states timing limit ss₀) (map verdict_in ss₀) (acting now taps₀ closed₀ opened₀ ss₀ m) due ≡ made
all_acted_acts timing now due k limit taps₀ taps closed₀ closed opened₀ opened ss₀ ss made m h l =
    ap (acts_of (setup_of_states timing limit ss₀) (map verdict_in ss₀) (acting now taps₀ closed₀ opened₀ ss₀ m)) (sym (take_all k due l)) ∙ h.acts limit m
