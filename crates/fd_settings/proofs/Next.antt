-- The positions with which a Solve starts: one element more, how many there are, and their ranges.
use Rattle.std.proofs.Common.{◌≡◌, ◌∙◌, ℕ, zero, suc, ◌+◌, ◌≤◌, Bool, true, false, if◌then◌else◌, List, [], ◌∷◌, ◌++◌, length, length-append, drop, slice_get, Option, Some, None, append_assoc, arith, ap, sym, subst, refl}
use Rattle.std.specs.List.{All, flat_map}
use Rattle.std.proofs.Math.ListN.{drop_of_length-le}
use Rattle.std.proofs.lemmas.List.{append-nil, length-map}
use Rattle.std.proofs.lemmas.List.Elements.{All-nil, All-append, All-drop, All-head, All-map, All-tail, All-weaker}
use Rattle.fd_devices.specs.fd_exact.Sums.{list_n}
use Rattle.fd_devices.specs.fd_arith.declared.terms.TapPair.{TapPair}
use Rattle.fd_devices.specs.dss_model.declared.element.Element.{Element}
use Rattle.fd_devices.specs.dss_model.declared.names.ElementName.{ElementName}
use Rattle.fd_devices.specs.dss_model.declared.transformer.Transformer.{Transformer}
use Rattle.fd_devices.specs.dss_model.declared.transformer.Winding.{Winding}
use Rattle.fd_devices.specs.dss_model.InRange.{ElementInRange, TransformerInRange}
use Rattle.fd_devices.specs.dss_model.Ranges.{IsTap}
use Rattle.fd_devices.specs.dss_layout.Layout.{Elements}
use Rattle.fd_devices.proofs.CallerLemmas.dss_layout.{drop-more}
use Rattle.fd_devices.specs.fd_xfmr.Leakage.{AreTaps}
use Rattle.fd_devices.specs.Kinds.{banks_in, transformers_in}
use Rattle.fd_devices.specs.Settings.{AreSettings, Settings, bank_count, tap_count}
use Rattle.fd_devices.proofs.CallerLemmas.{first_left, transformers_in_range}
use Rattle.fd_settings.specs.Snapshot.{SnapshotLaw, closed_of, snapshot_of, taps_of}
use Rattle.fd_settings.specs.Positions.{NextLaw, in_order, is_set, next_closed, next_closed_of, next_pair, next_state, next_tap, next_taps, next_taps_of}
use Rattle.fd_settings.proofs.HourPowers.{all_counted}

-- ---- what is left of a list

drop_none : {X : Type 0} (n : ℕ) → drop {A = X} n [] ≡ []
drop_none zero = refl
drop_none (suc n) = refl

drop_drop : {X : Type 0} (a b : ℕ) (xs : List X) → drop b (drop a xs) ≡ drop (a + b) xs
drop_drop zero b xs = let e : b ≡ 0 + b = omega arith in ap (λ n. drop n xs) e
drop_drop (suc a) b [] = drop_none b ∙ sym (drop_none (suc a + b))
drop_drop (suc a) b (x ∷ xs) = let e : suc (a + b) ≡ suc a + b = omega arith in drop_drop a b xs ∙ ap (λ n. drop n (x ∷ xs)) e

-- ---- how many an element has

next_taps_counted : (solves : ℕ) (e : Element) (before : Option TapPair) → length (next_taps_of solves e before) ≡ tap_count e
next_taps_counted solves e before = length-map (transformers_in e) (λ t. next_pair solves t before)

next_states_counted : (solves : ℕ) (e : Element) (before : Option Bool) → length (next_closed_of solves e before) ≡ bank_count e
next_states_counted solves e before = length-map (banks_in e) (λ bank. next_state solves bank before)

counted : {A : Type 0} (f : Element → Option A → List A) (n : Element → ℕ)
    → ((e : Element) (o : Option A) → length (f e o) ≡ n e) → (es : Elements) (before : List A)
    → length (in_order f n es before) ≡ list_n (λ (x : ElementName × Element). n x.1) es
counted f n h [] before = refl
counted f n h (e ∷ es) before =
    length-append (f e.1 (slice_get before 0)) (in_order f n es (drop (n e.1) before))
    ∙ (λ i. h e.1 (slice_get before 0) i + counted f n h es (drop (n e.1) before) i)

-- ---- one element more

-- what is made so far, then what the rest gives with those of before that are left
next_step : {A : Type 0} (f : Element → Option A → List A) (n : Element → ℕ)
    → ((e : Element) (o : Option A) → length (f e o) ≡ n e)
    → (es : Elements) (k : ℕ) (e : ElementName × Element) (made before : List A) → slice_get es k ≡ Some e
    → (made ++ f e.1 (slice_get before (length made)))
    ++ in_order f n (drop (k + 1) es) (drop (length (made ++ f e.1 (slice_get before (length made)))) before)
    ≡ made ++ in_order f n (drop k es) (drop (length made) before)
next_step f n h es k e made before at =
    let more = f e.1 (slice_get before (length made)) in
    let count : length (made ++ more) ≡ length made + n e.1 = length-append made more ∙ ap (λ m. length made + m) (h e.1 (slice_get before (length made))) in
    let left : drop (length (made ++ more)) before ≡ drop (n e.1) (drop (length made) before) =
    ap (λ m. drop m before) count ∙ sym (drop_drop (length made) (n e.1) before) in
    append_assoc made more (in_order f n (drop (k + 1) es) (drop (length (made ++ more)) before))
    ∙ ap (λ r. made ++ r)
    ((λ i. f e.1 (sym (first_left before (length made)) i) ++ in_order f n (drop (k + 1) es) (left i))
    ∙ ap (λ xs. in_order f n xs (drop (length made) before)) (sym (drop-more es k e at)))

-- the same of what is made with one element more
next_made : {A : Type 0} (f : Element → Option A → List A) (n : Element → ℕ)
    → ((e : Element) (o : Option A) → length (f e o) ≡ n e)
    → (es : Elements) (k : ℕ) (e : ElementName × Element) (made new before : List A) → slice_get es k ≡ Some e
    → new ≡ made ++ f e.1 (slice_get before (length made))
    → new ++ in_order f n (drop (k + 1) es) (drop (length new) before)
    ≡ made ++ in_order f n (drop k es) (drop (length made) before)
next_made f n h es k e made new before at is = ap (λ m. m ++ in_order f n (drop (k + 1) es) (drop (length m) before)) is ∙ next_step f n h es k e made before at

-- by the number of Solves and the list of before as the code reads them
pub taps_next : (solves read : ℕ) (es : Elements) (k : ℕ) (e : ElementName × Element)
    (made new before old : List TapPair)
    → slice_get es k ≡ Some e → read ≡ solves → old ≡ before
    → new ≡ made ++ next_taps_of read e.1 (slice_get old (length made))
    → new ++ next_taps solves (drop (k + 1) es) (drop (length new) before)
    ≡ made ++ next_taps solves (drop k es) (drop (length made) before)
taps_next solves read es k e made new before old at count same is =
    next_made (next_taps_of solves) tap_count (next_taps_counted solves) es k e made new before at
    (is ∙ (λ i. made ++ next_taps_of (count i) e.1 (slice_get (same i) (length made))))

pub states_next : (solves read : ℕ) (es : Elements) (k : ℕ) (e : ElementName × Element)
    (made new before old : List Bool)
    → slice_get es k ≡ Some e → read ≡ solves → old ≡ before
    → new ≡ made ++ next_closed_of read e.1 (slice_get old (length made))
    → new ++ next_closed solves (drop (k + 1) es) (drop (length new) before)
    ≡ made ++ next_closed solves (drop k es) (drop (length made) before)
states_next solves read es k e made new before old at count same is =
    next_made (next_closed_of solves) bank_count (next_states_counted solves) es k e made new before at
    (is ∙ (λ i. made ++ next_closed_of (count i) e.1 (slice_get (same i) (length made))))

-- no element is left
pub next_done : {A : Type 0} (f : Element → Option A → List A) (n : Element → ℕ) (es : Elements) (k : ℕ)
    (made left all : List A)
    → length es ≤ k → made ++ in_order f n (drop k es) left ≡ all → made ≡ all
next_done f n es k made left all past h = sym (append-nil made) ∙ ap (λ xs. made ++ in_order f n xs left) (sym (drop_of_length-le es past)) ∙ h

-- ---- where nothing was before

of_script : {A : Type 0} (f : Element → Option A → List A) (n : Element → ℕ) (es : Elements)
    → in_order f n es [] ≡ flat_map (λ (e : ElementName × Element). f e.1 None) es
of_script f n [] = refl
of_script f n (e ∷ es) = (λ i. f e.1 None ++ in_order f n es (drop_none (n e.1) i)) ∙ ap (λ r. f e.1 None ++ r) (of_script f n es)

pub script_taps : (solves : ℕ) (es : Elements) → next_taps solves es [] ≡ flat_map (λ (e : ElementName × Element). taps_of e.1) es
script_taps solves es = of_script (next_taps_of solves) tap_count es

pub script_states : (solves : ℕ) (es : Elements) → next_closed solves es [] ≡ flat_map (λ (e : ElementName × Element). closed_of e.1) es
script_states solves es = of_script (next_closed_of solves) bank_count es

-- ---- ranges

either_within : (P : ℕ → Type 0) (b : Bool) (x y : ℕ) → P x → P y → P (if b then x else y)
either_within P true x y hx hy = hx
either_within P false x y hx hy = hy

tap_within : (solves : ℕ) (w : Winding) (before : ℕ) → IsTap w.tap → IsTap before → IsTap (next_tap solves w before)
tap_within solves w before h k = either_within IsTap (is_set solves w.set_at) w.tap before h k

pair_within : (solves : ℕ) (t : Transformer) (before : List TapPair) → TransformerInRange t → All AreTaps before
    → AreTaps (next_pair solves t (slice_get before 0))
pair_within solves t [] h within = record {
  first_least = h.first.tap.least;
  first_most = h.first.tap.most;
  second_least = h.second.tap.least;
  second_most = h.second.tap.most;
}
pair_within solves t (p ∷ ps) h within =
    let of = All-head AreTaps p ps within in
    let first = tap_within solves t.first p.first h.first.tap (record { least = of.first_least; most = of.first_most }) in
    let second = tap_within solves t.second p.second h.second.tap (record { least = of.second_least; most = of.second_most }) in
    record { first_least = first.least; first_most = first.most; second_least = second.least; second_most = second.most }

taps_within : (solves : ℕ) (e : Element) (before : List TapPair) → ElementInRange e → All AreTaps before
    → All AreTaps (next_taps_of solves e (slice_get before 0))
taps_within solves e before h within =
    All-map AreTaps (λ t. next_pair solves t (slice_get before 0)) (transformers_in e)
    (All-weaker TransformerInRange (λ t. AreTaps (next_pair solves t (slice_get before 0)))
    (λ t r. pair_within solves t before r within) (transformers_in e) (transformers_in_range e h))

all_within : (solves : ℕ) (es : Elements) (before : List TapPair)
    → All (λ (e : ElementName × Element). ElementInRange e.1) es → All AreTaps before
    → All AreTaps (next_taps solves es before)
all_within solves [] before h within = All-nil AreTaps
all_within solves (e ∷ es) before h within =
    All-append AreTaps (next_taps_of solves e.1 (slice_get before 0))
    (next_taps solves es (drop (tap_count e.1) before))
    (taps_within solves e.1 before (All-head (λ (x : ElementName × Element). ElementInRange x.1) e es h) within)
    (all_within solves es (drop (tap_count e.1) before)
    (All-tail (λ (x : ElementName × Element). ElementInRange x.1) e es h)
    (All-drop AreTaps (tap_count e.1) before within))

-- ---- the laws

pub are_next : NextLaw
are_next solves es taps closed = record {
  counts = record {
    taps = counted (next_taps_of solves) tap_count (next_taps_counted solves) es taps;
    closed = counted (next_closed_of solves) bank_count (next_states_counted solves) es closed;
    powers = all_counted es 0 es;
  };
  within = all_within solves es taps;
  script = λ i. record {
    taps = script_taps solves es i;
    closed = script_states solves es i;
    powers = (snapshot_of es).powers;
  };
}

-- the settings of a script are those with which a Solve starts where nothing was before
pub snapshot_is : SnapshotLaw
snapshot_is es =
    let next = are_next 0 es [] [] in
    record {
      counts = subst (AreSettings es) next.script next.counts;
      taps = λ h. subst (λ (s : Settings). All AreTaps s.taps) next.script (next.within h (All-nil AreTaps));
    }
