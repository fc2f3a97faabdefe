-- What the samples of a step decide, and what each decision fits.
use Rattle.std.proofs.Common.{◌≡◌, ⊎_elim, ℕ, zero, suc, ◌+◌, ◌*◌, ◌<◌, ◌≤◌, Bool, true, false, cond, List, [], ◌∷◌, map, length, get_or, Option, Some, None, Ok, Err, refl, sym, ap, subst, ◌∙◌, arith}
use Rattle.std.specs.Prelude.{All, Result, ◌||◌, ℤ}
use Rattle.std.specs.List.{AllByRecursion, list_any}
use Rattle.std.specs.Option.{is_some}
use Rattle.std.proofs.lemmas.Bool.{cases_lt}
use Rattle.std.proofs.lemmas.List.{get_or-map, length-map}
use Rattle.fd_inject.specs.fd_arith.Interval.{Bounds}
use Rattle.fd_sample.specs.fd_queue.Controls.{Positions, pair_at, tap_of}
use Rattle.fd_sample.specs.fd_queue.Decisions.{Decision, Raise, Hold, Lower, same_decision, steps_of, way_of}
use Rattle.fd_sample.specs.fd_queue.MachineLaws.{entry_way}
use Rattle.fd_sample.specs.fd_queue.Quantities.{Quantity}
use Rattle.fd_sample.specs.fd_queue.declared.entry.Entry.{Entry}
use Rattle.fd_sample.specs.fd_regctl.RegulatorLaws.{StepsDown, StepsUp, StaysWithin, TapLaw}
use Rattle.fd_sample.specs.fd_regctl.Settings.{RegSettings}
use Rattle.fd_sample.specs.fd_capctl.BankLaws.{AwayLaw}
use Rattle.fd_sample.specs.declared.probe.Probe.{Probe}
use Rattle.fd_sample.specs.declared.probe.Probe.TheVariants as probe
use Rattle.fd_sample.specs.declared.probe.RegProbe.{RegProbe}
use Rattle.fd_sample.specs.Banks.{bank_of}
use Rattle.fd_sample.specs.Circuits.{HasRange}
use Rattle.fd_sample.specs.Decided.{Undecided, decided_or, greatest_in, least_in, sample_in, sample_over}
use Rattle.fd_sample.specs.Probes.{IsProbe, decision_at, interval_over, switch_of}
use Rattle.fd_sample.specs.Regulators.{settings_of}
use Rattle.fd_sample.specs.fd_queue.Controls.{is_closed}
use Rattle.fd_settle.specs.declared.state.ControlState.{ControlState}
use Rattle.fd_settle.specs.declared.state.ControlState.TheVariants as state
use Rattle.fd_settle.specs.Acting.{AllCanAct, CanAct, FitsDevice, MovesWithin, judged, verdict_in, with_verdict}
use Rattle.fd_settle.specs.Controls.{AreStates, IsStateOf, probe_in}
use Rattle.fd_settle.specs.Sampling.{Sampling, Decided, Unclear, sampling_of, with_first}
use Rattle.fd_settle.proofs.Reactions.{same_number}

-- ---- each sample of a sampling that is decided

record StartsWith (d : Decision) (s : Sampling) (ds : List Decision) : Type 0 where
  rest : List Decision
  first : ds ≡ d ∷ rest
  others : s ≡ Decided rest

starts_with : (d : Decision) (s : Sampling) (ds : List Decision) → with_first d s ≡ Decided ds → StartsWith d s ds
starts_with d (Decided es) ds h = record { rest = es; first = cc; others = refl }
starts_with d (Unclear k u) ds h = absurd (cc)

pub record AreDecisions (samples : List (Result Decision Undecided)) (ds : List Decision) : Type 0 where
  pub each : length ds ≡ length samples
  pub decided : (k : ℕ) (x : Result Decision Undecided) → k < length samples
      → get_or samples k x ≡ Ok (get_or ds k Hold)

first_decided : (k : ℕ) (d : Decision) (rest : List Decision) (samples : List (Result Decision Undecided))
    (ds : List Decision) (x : Result Decision Undecided)
    → ds ≡ d ∷ rest → AreDecisions samples rest → k < suc (length samples)
    → get_or (Ok d ∷ samples) k x ≡ Ok (get_or ds k Hold)
first_decided zero d rest samples ds x e h l = ap (λ xs. Ok (get_or xs 0 Hold)) (sym e)
first_decided (suc k) d rest samples ds x e h l = h.decided k x (omega arith) ∙ ap (λ xs. Ok (get_or xs (suc k) Hold)) (sym e)

pub decided_each : (j : ℕ) (samples : List (Result Decision Undecided)) (ds : List Decision)
    → sampling_of j samples ≡ Decided ds → AreDecisions samples ds
decided_each j [] [] h = record { each = refl; decided = λ k x l. absurd (omega arith) }
decided_each j [] (d ∷ ds) h = absurd (cc)
decided_each j (Err u ∷ samples) ds h = absurd (cc)
decided_each j (Ok d ∷ samples) ds h =
    let own = starts_with d (sampling_of (j + 1) samples) ds h in
    let others = decided_each (j + 1) samples own.rest own.others in
    record {
      each = ap length own.first ∙ ap suc others.each;
      decided = λ k x l. first_decided k d own.rest samples ds x own.first others l;
    }

-- ---- a decided sample is what the control wants at some quantity

pub record Wants (p : Probe) (at : Positions) (d : Decision) : Type 0 where
  pub quantity : Quantity
  pub wants : decision_at p at quantity ≡ d

low_by : (t : Bool) (low d : Decision) (u : Undecided) → decided_or (cond t (Some low) None) u ≡ Ok d → low ≡ d
low_by true low d u h = cc
low_by false low d u h = absurd (cc)

wants_in : (p : Probe) (at : Positions) (s : Bounds) (d : Decision) → sample_in p at s ≡ Ok d → Wants p at d
wants_in p at None d h = absurd (cc)
wants_in p at (Some e) d h = record {
  quantity = least_in p (Some e);
  wants = low_by (same_decision (decision_at p at (least_in p (Some e))) (decision_at p at (greatest_in p (Some e)))) _ d _ h;
}

pub sample_wants : (p : Probe) (at : Positions) (centre : List ℤ) (radii : List ℕ) (d : Decision)
    → sample_over p at centre radii ≡ Ok d → Wants p at d
unfolding sample_over
sample_wants p at centre radii d h = wants_in p at (interval_over p at centre radii) d h

-- ---- it fits the device

up_within : (s : RegSettings) (tap n : ℕ) → StepsUp s tap (suc n) → s.max_tap ≤ 200000
    → tap + suc n * s.changer.tap_step ≤ 200000
up_within s tap n h l = ⊎_elim (λ less. omega (arith, h.within (omega (arith, less)), l)) (λ more. absurd (omega (arith, h.none more))) (cases_lt tap s.max_tap)

down_within : (s : RegSettings) (tap n : ℕ) → StepsDown s tap (suc n) → 50000 ≤ s.min_tap
    → 50000 + suc n * s.changer.tap_step ≤ tap
down_within s tap n h l =
    ⊎_elim (λ less. omega (arith, h.within (omega (arith, less)), l)) (λ more. absurd (omega (arith, h.none more)))
    (cases_lt s.min_tap tap)

pub moves_within : (s : RegSettings) (tap : ℕ) (d : Decision) (up : Bool) → StaysWithin s tap d → way_of d ≡ Some up
    → 50000 ≤ s.min_tap → s.max_tap ≤ 200000 →
    MovesWithin tap s.changer.tap_step d
moves_within s tap (Raise zero) up h w l m = absurd (cc)
moves_within s tap (Raise (suc n)) up h w l m = up_within s tap n h m
moves_within s tap Hold up h w l m = absurd (cc)
moves_within s tap (Lower zero) up h w l m = absurd (cc)
moves_within s tap (Lower (suc n)) up h w l m = down_within s tap n h l

pub few_steps : (s : RegSettings) (tap : ℕ) (d : Decision) → StaysWithin s tap d → s.most ≤ 1000 → steps_of d ≤ 1000
few_steps s tap (Raise n) h l = omega (arith, h.few)
few_steps s tap Hold h l = omega arith
few_steps s tap (Lower n) h l = omega (arith, h.few)

-- a regulator's decision keeps to its settings
pub stays_within : TapLaw → (p : RegProbe) (at : Positions) (d : Decision) → Wants (probe.Regulator p) at d
    → StaysWithin (settings_of p) (tap_of p.is_second (pair_at at p.transformer)) d
stays_within taps p at d wants =
    let tap = tap_of p.is_second (pair_at at p.transformer) in
    subst (StaysWithin (settings_of p) tap) wants.wants (taps (settings_of p) tap wants.quantity)

pub fits_device : TapLaw → AwayLaw
    → (n k : ℕ) (opened : List (Option ℕ)) (at : Positions) (s : ControlState) (d : Decision) (up : Bool)
    → IsStateOf opened k s →
    IsProbe n (probe_in s) → HasRange (probe_in s) → Wants (probe_in s) at d → way_of d ≡ Some up → FitsDevice at.taps (with_verdict d s)
fits_device taps away n k opened at (state.Regulator p s) d up h is range wants way =
    let tap = tap_of p.is_second (pair_at at p.transformer) in
    let within : StaysWithin (settings_of p) tap d = stays_within taps p at d wants in
    let moves : MovesWithin tap p.tap_step d = moves_within (settings_of p) tap d up within way range.0 range.1 in (
      few_steps (settings_of p) tap d within is.settings.most,
      subst (λ b. MovesWithin (tap_of b (pair_at at p.transformer)) s.tap_step d) (sym h.1.0) (subst (λ t. MovesWithin tap t d) (sym h.1.1.0) moves),
    )
fits_device taps away n k opened at (state.Bank p s) d up h is range wants way =
    ap steps_of (sym wants.wants) ∙ (away (bank_of p) (is_closed at (switch_of p)) wants.quantity).one_step up (ap way_of wants.wants ∙ way)

-- ---- states by their verdicts

pub judged_own : (ss : List ControlState) (vs : List Decision) (k : ℕ) (d : ControlState) → k < length vs
    → k < length ss →
    get_or (judged ss vs) k d ≡ with_verdict (get_or vs k Hold) (get_or ss k d)
judged_own [] vs k d l m = absurd (omega arith)
judged_own (s ∷ ss) [] k d l m = absurd (omega arith)
judged_own (s ∷ ss) (v ∷ vs) zero d l m = refl
judged_own (s ∷ ss) (v ∷ vs) (suc k) d l m = judged_own ss vs k d (omega arith) (omega arith)

own_verdict : (v : Decision) (s : ControlState) → verdict_in (with_verdict v s) ≡ v
own_verdict v (state.Regulator p s) = refl
own_verdict v (state.Bank p s) = refl

pub judged_verdicts : (ss : List ControlState) (vs : List Decision) → length vs ≡ length ss
    → map verdict_in (judged ss vs) ≡ vs
judged_verdicts [] [] h = refl
judged_verdicts [] (v ∷ vs) h = absurd (omega arith)
judged_verdicts (s ∷ ss) [] h = absurd (omega arith)
judged_verdicts (s ∷ ss) (v ∷ vs) h = ap (λ x. x ∷ map verdict_in (judged ss vs)) (own_verdict v s) ∙ ap (λ xs. v ∷ xs) (judged_verdicts ss vs (omega arith))

pub state_same : (opened : List (Option ℕ)) (k : ℕ) (v : Decision) (s : ControlState) → IsStateOf opened k s
    → IsStateOf opened k (with_verdict v s)
state_same opened k v (state.Regulator p s) h = h
state_same opened k v (state.Bank p s) h = h

-- ---- each entry's control can act

entry_can : TapLaw → AwayLaw
    → (n : ℕ) (opened : List (Option ℕ)) (at : Positions) (ss : List ControlState) (vs : List Decision) (e : Entry)
    → AreStates opened ss →
    All (IsProbe n) (map probe_in ss) → All HasRange (map probe_in ss) → length vs ≡ length ss →
    ((k : ℕ) (d : ControlState) → k < length ss → Wants (probe_in (get_or ss k d)) at (get_or vs k Hold)) →
    e.control < length ss → way_of (get_or vs e.control Hold) ≡ Some e.up → (d : ControlState) → CanAct at.taps (get_or (judged ss vs) e.control d) e
entry_can taps away n opened at ss vs e are places ranges each wants l way d =
    let k = e.control in
    let s = get_or ss k d in
    let v = get_or vs k Hold in
    let state : IsStateOf opened k s = are k d l in
    let there : k < length (map probe_in ss) = omega (arith, length-map ss probe_in) in
    let here = get_or-map probe_in ss k d (probe_in s) l in
    subst (λ x. CanAct at.taps x e) (sym (judged_own ss vs k d (omega arith) l)) (record {
      control = sym (same_number opened k (with_verdict v s) (state_same opened k v s state));
      way = ap way_of (own_verdict v s) ∙ way;
      fits = fits_device taps away n k opened at s v e.up state (subst (IsProbe n) here (places k (probe_in s) there))
          (subst HasRange here (ranges k (probe_in s) there)) (wants k d l) way;
    })

pub entries_can : TapLaw → AwayLaw
    → (n : ℕ) (opened : List (Option ℕ)) (at : Positions) (ss : List ControlState) (vs : List Decision)
    (es : List Entry)
    → AreStates opened ss → All (IsProbe n) (map probe_in ss) → All HasRange (map probe_in ss) → length vs ≡ length ss
    → ((k : ℕ) (d : ControlState) → k < length ss → Wants (probe_in (get_or ss k d)) at (get_or vs k Hold))
    → AllByRecursion (λ e. e.control < length ss) es
    → AllByRecursion (λ e. way_of (get_or vs e.control Hold) ≡ Some e.up) es → AllCanAct at.taps (judged ss vs) es
entries_can taps away n opened at ss vs [] are places ranges each wants l way = tt
entries_can taps away n opened at ss vs (e ∷ es) are places ranges each wants l way = (
  entry_can taps away n opened at ss vs e are places ranges each wants l.0 way.0,
  entries_can taps away n opened at ss vs es are places ranges each wants l.1 way.1,
)
