-- The records of a settle, of its parts.
use Rattle.std.proofs.Common.{◌≡◌, ◌∙◌, ◌<◌, ◌≤◌, ◌+◌, ◌++◌, ℕ, zero, suc, Bool, true, false, cond, List, [], ◌∷◌, map}
use Rattle.std.proofs.Common.{filter, length, take, drop, slice_get, get_or, Option, Some, None, refl, sym, ap, subst}
use Rattle.std.specs.List.{flat_map, zip}
use Rattle.std.specs.Option.{option_map}
use Rattle.std.specs.Prelude.{All, IsSome, if◌then◌else◌}
use Rattle.std.proofs.lemmas.List.{append_assoc, append-nil, drop_all, get_or-map, length-map, map-append, take_all}
use Rattle.std.proofs.lemmas.List.Elements.{filter_more}
use Rattle.std.proofs.lemmas.Option.{get_or_from_slice_get, same_Some, slice_get-get_or, slice_get-map}
use Rattle.std.proofs.lemmas.Option.{slice_get_within}
use Rattle.fd_bases.specs.dss_model.declared.element.Element.{Element}
use Rattle.fd_bases.specs.dss_model.declared.names.ElementName.{ElementName}
use Rattle.fd_bases.specs.dss_layout.Layout.{Elements}
use Rattle.fd_outcome.specs.fd_queue.Controls.{Positions}
use Rattle.fd_outcome.specs.fd_report.Controls.{bank_fields}
use Rattle.fd_outcome.specs.fd_report.Lines.{lines_of}
use Rattle.fd_outcome.specs.fd_report.Solutions.{IsOfSize}
use Rattle.fd_outcome.specs.fd_sample.declared.probe.Probe.{Probe}
use Rattle.fd_outcome.specs.fd_settle.declared.round.Round.{Round as Made}
use Rattle.fd_outcome.specs.Pages.{bank_rows_by, banks_of, controls_of, is_bank, is_control, solution_in, tap_rows_by}
use Rattle.fd_outcome.specs.Settles.{Round}
use Rattle.fd_pages.specs.Hours.{round_in}
use Rattle.fd_pages.specs.Places.{AreControlPlaces, bank_rows_first, tap_rows_of}

-- ---- places of controls

control_more : (es : Elements) (k : ℕ) (e : ElementName × Element) → slice_get es k ≡ Some e
    → filter (λ (x : ElementName × Element). is_control x.1) (take (k + 1) es)
    ≡ filter (λ (x : ElementName × Element). is_control x.1) (take k es) ++ cond (is_control e.1) (e ∷ []) []
control_more es k e here =
    let p : ElementName × Element → Bool = λ (x : ElementName × Element). is_control x.1 in
    filter_more p es k e (slice_get_within es k e here)
    ∙ ap (λ (x : ElementName × Element). filter p (take k es) ++ cond (p x) (x ∷ []) [])
    (get_or_from_slice_get es k e e here)

own_place : (es : Elements) (k : ℕ) (e : ElementName × Element) (b : Bool) → slice_get es k ≡ Some e
    → map (slice_get es) (if b then k ∷ [] else []) ≡ map Some (cond b (e ∷ []) [])
own_place es k e true here = ap (λ (o : Option (ElementName × Element)). o ∷ []) here
own_place es k e false here = refl

pub places_next : (es : Elements) (k : ℕ) (e : ElementName × Element) (ps qs : List ℕ)
    → map (slice_get es) ps ≡ map Some (filter (λ (x : ElementName × Element). is_control x.1) (take k es))
    → slice_get es k ≡ Some e → qs ≡ ps ++ (if is_control e.1 then k ∷ [] else [])
    → map (slice_get es) qs ≡ map Some (filter (λ (x : ElementName × Element). is_control x.1) (take (k + 1) es))
places_next es k e ps qs made here more =
    let own : List ℕ = if is_control e.1 then k ∷ [] else [] in
    let front : Elements = filter (λ (x : ElementName × Element). is_control x.1) (take k es) in
    ap (map (slice_get es)) more
    ∙ map-append (slice_get es) ps own
    ∙ ap (λ l. l ++ map (slice_get es) own) made
    ∙ ap (λ l. map Some front ++ l) (own_place es k e (is_control e.1) here)
    ∙ sym (map-append Some front (cond (is_control e.1) (e ∷ []) []))
    ∙ ap (map Some) (sym (control_more es k e here))

pub places_end : (es : Elements) (k : ℕ) (ps : List ℕ)
    → map (slice_get es) ps ≡ map Some (filter (λ (x : ElementName × Element). is_control x.1) (take k es))
    → length es ≤ k → AreControlPlaces es ps
places_end es k ps made past =
    made ∙ ap (λ (l : Elements). map Some (filter (λ (x : ElementName × Element). is_control x.1) l))
    (take_all k es past)

-- the control of a number, by its place
control_by : (es : Elements) (ps : List ℕ) (k : ℕ) → AreControlPlaces es ps
    → option_map Some (slice_get (controls_of es) k) ≡ option_map (slice_get es) (slice_get ps k)
control_by es ps k are =
    sym (slice_get-map Some (controls_of es) k) ∙ ap (λ l. slice_get l k) (sym are) ∙ slice_get-map (slice_get es) ps k

by_some : {A : Type 0} (o p : Option A) → option_map Some o ≡ Some p → o ≡ p
by_some None p e = absurd (cc)
by_some (Some x) p e = same_Some (Some x) p e

by_none : {A : Type 0} (o : Option A) → option_map Some o ≡ None → o ≡ None
by_none None e = refl
by_none (Some x) e = absurd (cc)

pub control_at : (es : Elements) (ps : List ℕ) (k place : ℕ) → AreControlPlaces es ps → slice_get ps k ≡ Some place
    → slice_get (controls_of es) k ≡ slice_get es place
control_at es ps k place are at =
    by_some (slice_get (controls_of es) k) (slice_get es place)
    (control_by es ps k are ∙ ap (option_map (slice_get es)) at)

pub no_control : (es : Elements) (ps : List ℕ) (k : ℕ) → AreControlPlaces es ps → slice_get ps k ≡ None
    → slice_get (controls_of es) k ≡ None
no_control es ps k are at =
    by_none (slice_get (controls_of es) k) (control_by es ps k are ∙ ap (option_map (slice_get es)) at)

is_some_of : {A : Type 0} (o p : Option A) → option_map Some o ≡ Some p → IsSome p
is_some_of None p e = absurd (cc)
is_some_of (Some x) p e = subst (λ q. IsSome q) (same_Some (Some x) p e) refl

some_before : {A B : Type 0} (f : A → B) (o : Option A) → IsSome (option_map f o) → IsSome o
some_before f None h = h
some_before f (Some x) h = refl

-- there is an element at a control's place
pub is_found : {A : Type 0} (es : Elements) (ps : List ℕ) (k place : ℕ) (f : A → ElementName × Element) (o : Option A)
    → AreControlPlaces es ps → slice_get ps k ≡ Some place → option_map f o ≡ slice_get es place → IsSome o
is_found es ps k place f o are at e =
    some_before f o (subst (λ q. IsSome q) (sym e) (is_some_of (slice_get (controls_of es) k) (slice_get es place)
    (control_by es ps k are ∙ ap (option_map (slice_get es)) at)))

-- ---- records of a list's elements, one after the other

lines_append : (a b : List (List (List ℕ))) → lines_of (a ++ b) ≡ lines_of a ++ lines_of b
lines_append a b = map-append _ a b

-- what is left begins with these
pub rows_left : (old mid new : List (List ℕ)) (a b : List (List (List ℕ))) → mid ++ lines_of (a ++ b) ≡ old
    → new ≡ mid ++ lines_of a → new ++ lines_of b ≡ old
rows_left old mid new a b made more =
    ap (λ l. l ++ lines_of b) more
    ∙ append_assoc mid (lines_of a) (lines_of b)
    ∙ ap (λ l. mid ++ l) (sym (lines_append a b))
    ∙ made

pub no_rows : (old : List (List ℕ)) (rows : List (List (List ℕ))) → rows ≡ [] → old ≡ old ++ lines_of rows
no_rows old rows none = sym (append-nil old) ∙ ap (λ l. old ++ lines_of l) (sym none)

-- ---- taps

abbrev taps_from : Positions → Elements → List Probe → List (List (List ℕ))
taps_from at cs ps = flat_map (λ (c : (ElementName × Element) × Probe). tap_rows_by at c.0.0 c.1) (zip cs ps)

taps_left : (at : Positions) (cs : Elements) (ps : List Probe) (k : ℕ) (p : Probe) → slice_get ps k ≡ Some p
    → taps_from at (drop k cs) (drop k ps) ≡ tap_rows_of at (slice_get cs k) p
    ++ taps_from at (drop (suc k) cs) (drop (suc k) ps)
taps_left at [] ps zero p here = refl
taps_left at [] ps (suc k) p here = refl
taps_left at (c ∷ cs) [] zero p here = absurd (cc)
taps_left at (c ∷ cs) [] (suc k) p here = absurd (cc)
taps_left at (c ∷ cs) (q ∷ ps) zero p here =
    ap (λ (x : Probe). tap_rows_by at c.0 x ++ taps_from at cs ps) (same_Some q p here)
taps_left at (c ∷ cs) (q ∷ ps) (suc k) p here = taps_left at cs ps k p here

-- behind a probe's
pub taps_next : (at : Positions) (cs : Elements) (ps items : List Probe) (k m : ℕ) (d : Probe)
    (old mid new : List (List ℕ))
    → items ≡ ps → k < length items → m ≡ suc k
    → mid ++ lines_of (taps_from at (drop k cs) (drop k ps)) ≡ old
    → new ≡ mid ++ lines_of (tap_rows_of at (slice_get cs k) (get_or items k d))
    → new ++ lines_of (taps_from at (drop m cs) (drop m ps)) ≡ old
taps_next at cs ps items k m d old mid new same within next made more =
    let p : Probe = get_or items k d in
    let here : slice_get ps k ≡ Some p =
    ap (λ (l : List Probe). slice_get l k) (sym same) ∙ slice_get-get_or items k d within in
    subst (λ (j : ℕ). new ++ lines_of (taps_from at (drop j cs) (drop j ps)) ≡ old) (sym next)
    (rows_left old mid new (tap_rows_of at (slice_get cs k) p) (taps_from at (drop (suc k) cs) (drop (suc k) ps))
    (ap (λ l. mid ++ lines_of l) (sym (taps_left at cs ps k p here)) ∙ made) more)

no_probes : (at : Positions) (cs : Elements) → taps_from at cs [] ≡ []
no_probes at [] = refl
no_probes at (c ∷ cs) = refl

pub taps_end : (at : Positions) (cs : Elements) (ps : List Probe) (k : ℕ) → length ps ≤ k
    → taps_from at (drop k cs) (drop k ps) ≡ []
taps_end at cs ps k past = ap (taps_from at (drop k cs)) (drop_all k ps past) ∙ no_probes at (drop k cs)

-- ---- banks

banks_first : (e : ElementName × Element) (es : Elements) → is_bank e.1 ≡ true → banks_of (e ∷ es) ≡ e ∷ banks_of es
banks_first e es h = rw h refl

no_states : (banks : Elements) → bank_rows_by banks [] ≡ []
no_states [] = refl
no_states (b ∷ banks) = refl

-- behind a bank's record
pub bank_next : (e : ElementName × Element) (es all_left : Elements) (closed left : List Bool)
    (old mid new : List (List ℕ))
    → is_bank e.1 ≡ true → all_left ≡ e ∷ es → left ≡ drop 1 closed
    → mid ++ lines_of (bank_rows_by (banks_of all_left) closed) ≡ old
    → new ≡ mid ++ lines_of (bank_rows_first e.0 closed) → new ++ lines_of (bank_rows_by (banks_of es) left) ≡ old
bank_next e es all_left closed left old mid new bank first behind made more =
    rows_left old mid new (bank_rows_first e.0 closed) (bank_rows_by (banks_of es) left)
    (ap (λ l. mid ++ lines_of l) (sym (all closed left behind))
    ∙ ap (λ (bs : Elements). mid ++ lines_of (bank_rows_by (banks_of bs) closed)) (sym first) ∙ made)
    more
  where
    all : (cs ls : List Bool) → ls ≡ drop 1 cs
        → bank_rows_by (banks_of (e ∷ es)) cs ≡ bank_rows_first e.0 cs ++ bank_rows_by (banks_of es) ls
    all [] ls is =
        ap (λ (bs : Elements). bank_rows_by bs []) (banks_first e es bank) ∙ sym (no_states (banks_of es))
        ∙ ap (bank_rows_by (banks_of es)) (sym is)
    all (b ∷ cs) ls is =
        ap (λ (bs : Elements). bank_rows_by bs (b ∷ cs)) (banks_first e es bank)
        ∙ ap (λ (l : List Bool). bank_fields e.0 b ∷ bank_rows_by (banks_of es) l) (sym is)

-- ---- numbers of a round

pub size_at : (n : ℕ) (rs : List Made) (k : ℕ) (r : Made) → All (λ x. IsOfSize n (solution_in x)) (map round_in rs)
    → k < length rs → r ≡ get_or rs k r → IsOfSize n (solution_in (round_in r))
size_at n rs k r all within is =
    let P : Round → Type 0 = λ x. IsOfSize n (solution_in x) in
    subst P (get_or-map round_in rs k r (round_in r) within ∙ ap round_in (sym is))
    (all k (round_in r) (subst (λ m. k < m) (sym (length-map rs round_in)) within))
