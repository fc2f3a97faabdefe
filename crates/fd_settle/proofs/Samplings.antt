-- The samples of the controls, one more.
use Rattle.std.proofs.Common.{◌≡◌, ℕ, ◌+◌, ◌<◌, ◌≤◌, true, List, [], ◌∷◌, ◌++◌, map, drop, length, get_or, Ok, Err, refl, sym, ap, subst, ◌∙◌}
use Rattle.std.proofs.lemmas.List.Elements.{All-push}
use Rattle.std.proofs.lemmas.List.{drop_all, drop_more, get_or-map, length-map, map_push}
use Rattle.fd_sample.specs.fd_queue.Controls.{Positions}
use Rattle.fd_sample.specs.fd_queue.Decisions.{Decision}
use Rattle.fd_sample.specs.fd_queue.Verdicts.{decision, is_decided}
use Rattle.fd_sample.specs.fd_queue.declared.verdict.Verdict.{Verdict}
use Rattle.fd_sample.specs.fd_queue.declared.verdict.Verdict.TheVariants as verdict
use Rattle.std.specs.Prelude.{ℤ, All, Result}
use Rattle.fd_sample.specs.declared.probe.Probe.{Probe}
use Rattle.fd_sample.specs.Decided.{Undecided, sample_of, sample_over}
use Rattle.fd_settle.specs.declared.state.ControlState.{ControlState}
use Rattle.fd_settle.specs.Acting.{AreDecided, sampled_over}
use Rattle.fd_settle.specs.Controls.{probe_in}
use Rattle.fd_settle.specs.Sampling.{Sampling, Decided, Unclear, sampling_of, with_first}

-- the decisions of the first controls, before those of a sampling
abbrev pub before : List Decision → Sampling → Sampling
before [] s = s
before (d ∷ ds) s = with_first d (before ds s)

before_push : (ds : List Decision) (d : Decision) (s : Sampling) → before (ds ++ d ∷ []) s ≡ before ds (with_first d s)
before_push [] d s = refl
before_push (e ∷ ds) d s = ap (with_first e) (before_push ds d s)

before_unclear : (ds : List Decision) (k : ℕ) (u : Undecided) → before ds (Unclear k u) ≡ Unclear k u
before_unclear [] k u = refl
before_unclear (d ∷ ds) k u = ap (with_first d) (before_unclear ds k u)

before_decided : (ds : List Decision) → before ds (Decided []) ≡ Decided ds
before_decided [] = refl
before_decided (d ∷ ds) = ap (with_first d) (before_decided ds)

-- the samplings of the controls from number k on
abbrev pub samples_of : List ControlState → Positions → List ℤ → List ℕ → List (Result Decision Undecided)
samples_of ss at centre radii = map (λ p. sample_over p at centre radii) (map probe_in ss)

decided_sample : (v : Verdict) → is_decided v ≡ true → sample_of v ≡ Ok (decision v)
decided_sample (verdict.Raise n) h = refl
decided_sample verdict.Hold h = refl
decided_sample (verdict.Lower n) h = refl
decided_sample (verdict.Undecided low high edge) h = absurd (cc)

at_first : (k : ℕ) (ss : List ControlState) (at : Positions) (centre : List ℤ) (radii : List ℕ) (d : ControlState)
    → k < length ss →
    sampling_of k (samples_of (drop k ss) at centre radii)
    ≡ sampling_of k (sample_over (probe_in (get_or ss k d)) at centre radii ∷ samples_of (drop (k + 1) ss) at centre radii)
at_first k ss at centre radii d l = ap (λ (xs : List ControlState). sampling_of k (samples_of xs at centre radii)) (drop_more ss k d l)

by_decided : (k : ℕ) (o : Result Decision Undecided) (d : Decision) (rest : List (Result Decision Undecided))
    → o ≡ Ok d →
    sampling_of k (o ∷ rest) ≡ with_first d (sampling_of (k + 1) rest)
by_decided k o d rest h = ap (λ (x : Result Decision Undecided). sampling_of k (x ∷ rest)) h

by_unclear : (k : ℕ) (o : Result Decision Undecided) (u : Undecided) (rest : List (Result Decision Undecided))
    → o ≡ Err u →
    sampling_of k (o ∷ rest) ≡ Unclear k u
by_unclear k o u rest h = ap (λ (x : Result Decision Undecided). sampling_of k (x ∷ rest)) h

-- a control more that is decided
pub one_decided : (k : ℕ) (ss : List ControlState) (at : Positions) (centre : List ℤ) (radii : List ℕ) (vs : List Verdict) (v : Verdict)
    (s : ControlState) → k < length ss → s ≡ get_or ss k s → sample_of v ≡ sample_over (probe_in s) at centre radii → is_decided v ≡ true →
    before (map decision vs) (sampling_of k (samples_of (drop k ss) at centre radii)) ≡ sampled_over ss at centre radii →
    before (map decision (vs ++ v ∷ [])) (sampling_of (k + 1) (samples_of (drop (k + 1) ss) at centre radii)) ≡ sampled_over ss at centre radii
one_decided k ss at centre radii vs v s l is sample decides so_far =
    let rest = samples_of (drop (k + 1) ss) at centre radii in
    let here : sample_over (probe_in (get_or ss k s)) at centre radii ≡ Ok (decision v) =
    ap (λ (x : ControlState). sample_over (probe_in x) at centre radii) (sym is) ∙ sym sample ∙ decided_sample v decides in
    let first = at_first k ss at centre radii s l ∙ by_decided k (sample_over (probe_in (get_or ss k s)) at centre radii) (decision v) rest here in
    ap (λ (ds : List Decision). before ds (sampling_of (k + 1) rest)) (map_push decision vs v)
    ∙ before_push (map decision vs) (decision v) (sampling_of (k + 1) rest)
    ∙ ap (before (map decision vs)) (sym first) ∙ so_far

-- one that is not
pub one_unclear : (k : ℕ) (ss : List ControlState) (at : Positions) (centre : List ℤ) (radii : List ℕ) (vs : List Verdict) (u : Undecided)
    (s : ControlState) → k < length ss → s ≡ get_or ss k s → Err u ≡ sample_over (probe_in s) at centre radii →
    before (map decision vs) (sampling_of k (samples_of (drop k ss) at centre radii)) ≡ sampled_over ss at centre radii →
    sampled_over ss at centre radii ≡ Unclear k u
one_unclear k ss at centre radii vs u s l is sample so_far =
    let rest = samples_of (drop (k + 1) ss) at centre radii in
    let here : sample_over (probe_in (get_or ss k s)) at centre radii ≡ Err u =
    ap (λ (x : ControlState). sample_over (probe_in x) at centre radii) (sym is) ∙ sym sample in
    let first = at_first k ss at centre radii s l ∙ by_unclear k (sample_over (probe_in (get_or ss k s)) at centre radii) u rest here in
    sym so_far ∙ ap (before (map decision vs)) first ∙ before_unclear (map decision vs) k u

-- all are
pub all_decided : (k : ℕ) (ss : List ControlState) (at : Positions) (centre : List ℤ) (radii : List ℕ) (vs : List Verdict)
    → length ss ≤ k →
    before (map decision vs) (sampling_of k (samples_of (drop k ss) at centre radii)) ≡ sampled_over ss at centre radii →
    sampled_over ss at centre radii ≡ Decided (map decision vs)
all_decided k ss at centre radii vs l so_far =
    sym so_far ∙ ap (λ (xs : List ControlState). before (map decision vs) (sampling_of k (samples_of xs at centre radii))) (drop_all k ss l)
    ∙ before_decided (map decision vs)

-- P of each control's probe
pub at_control : (P : Probe → Type 0) (ss : List ControlState) (k : ℕ) (s : ControlState) → All P (map probe_in ss)
    → k < length ss →
    s ≡ get_or ss k s → P (probe_in s)
at_control P ss k s h l is =
    let there : k < length (map probe_in ss) = rw length-map l in
    let here : get_or (map probe_in ss) k (probe_in s) ≡ probe_in s = get_or-map probe_in ss k s (probe_in s) l ∙ ap probe_in (sym is) in
    subst P here (h k (probe_in s) there)

-- a verdict more that is decided
pub push_decided : (vs : List Verdict) (v : Verdict) → AreDecided vs → is_decided v ≡ true → AreDecided (vs ++ v ∷ [])
push_decided vs v h d = All-push (λ v. is_decided v ≡ true) vs v h d

pub unclear_same : (k : ℕ) (low high edge low' high' edge' : ℤ) → low' ≡ low → high' ≡ high → edge' ≡ edge →
    Unclear k (record { low = low; high = high; edge = edge }) ≡ Unclear k (record { low = low'; high = high'; edge = edge' })
unclear_same k low high edge low' high' edge' h i j = cc

pub decided_by : (v : Verdict) → ((low high edge : ℤ) → v ≡ verdict.Undecided low high edge → ⊥) → is_decided v ≡ true
decided_by (verdict.Raise n) h = refl
decided_by verdict.Hold h = refl
decided_by (verdict.Lower n) h = refl
decided_by (verdict.Undecided low high edge) h = absurd (h low high edge refl)
