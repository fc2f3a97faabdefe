-- A pass over the elements that are due reaches what a pass over all elements does.
use Rattle.std.proofs.Common.{◌≡◌, ℕ, zero, suc, ◌+◌, ◌-◌, ◌≤◌, ◌<◌, Bool, true, false, cond, not, is_some, List, [], ◌∷◌, ◌++◌, length, drop, slice_get, Option, Some, None, ◌⊎◌, inl, inr, refl, sym, ap, ◌∙◌, subst, arith}
use Rattle.std.specs.Map.{lookup}
use Rattle.std.proofs.lemmas.Bool.{or_parts}
use Rattle.std.proofs.lemmas.List.{drop_all}
use Rattle.std.proofs.lemmas.Option.{slice_get_within}
use Rattle.dss_layout.specs.dss_lexer.Texts.{text_eq}
use Rattle.dss_layout.specs.dss_model.declared.bus.Bus.{Bus}
use Rattle.dss_layout.specs.dss_model.declared.element.Element.{Element}
use Rattle.dss_layout.specs.dss_model.declared.element.Element.TheVariants as the
use Rattle.dss_layout.specs.dss_model.declared.names.ElementName.{ElementName}
use Rattle.dss_circuit.specs.Circuit.{Elements}
use Rattle.fd_bases.specs.declared.nominal.Nominal.{Nominal}
use Rattle.fd_bases.specs.Nominals.{source_nominal, winding_nominal}
use Rattle.fd_bases.specs.Walk.{Reached, nominal_at, reach_where, carried_where, carried, joined, taken, pass}
use Rattle.fd_bases.specs.Due.{ends_touch, touches, touches_where, touches_at, is_reached, is_idle_between, is_idle, is_idle_where, is_idle_at, taken_where, taken_at}
use Rattle.fd_bases.proofs.Walking.{carried_grows}
use Rattle.fd_bases.proofs.Settled.{has_more, has_reached, reached_before, carried_before}

-- ---- an element that is idle changes nothing

-- of two buses none is reached
carried_nowhere : (r : Reached) (from to : List ℕ) (own : Option Nominal) → is_reached r from ≡ false
    → carried from to own r ≡ r
carried_nowhere r from to own h = by (nominal_at r from) h
  where
    by : (found : Option Nominal) → is_some found ≡ false → carried_where found to own r ≡ r
    by None e = refl
    by (Some there) e = absurd (let no : true ≡ false = e in cc)

joined_idle : (first : Option Bus) (at_first : Option Nominal) (second : Option Bus) (at_second : Option Nominal) (r : Reached)
    → is_idle_between first second r ≡ true → joined first at_first second at_second r ≡ r
joined_idle (Some a) at_a (Some b) at_b r h = by (is_reached r a.name) refl (is_reached r b.name) refl h
  where
    by : (p : Bool) → is_reached r a.name ≡ p → (q : Bool) → is_reached r b.name ≡ q → cond p q (not q) ≡ true
        → carried b.name a.name at_a (carried a.name b.name at_b r) ≡ r
    by true here true there e = ap (carried b.name a.name at_a) (carried_before r a.name b.name at_b there) ∙ carried_before r b.name a.name at_a here
    by true here false there e = absurd (let no : false ≡ true = e in cc)
    by false here true there e = absurd (let no : false ≡ true = e in cc)
    by false here false there e = ap (carried b.name a.name at_a) (carried_nowhere r a.name b.name at_b here) ∙ carried_nowhere r b.name a.name at_a there
joined_idle (Some a) at_a None at_b r h = refl
joined_idle None at_a b at_b r h = refl

pub idle_same : (e : Element) (r : Reached) → is_idle e r ≡ true → taken e r ≡ r
idle_same (the.Vsource v) r h = reached_before r v.bus1.name (source_nominal v) h
idle_same (the.Line l) r h = joined_idle l.bus1 None l.bus2 None r h
idle_same (the.Transformer t) r h =
    joined_idle t.first.bus (Some (winding_nominal t.phases t.first)) t.second.bus
    (Some (winding_nominal t.phases t.second)) r h
idle_same e r h = refl

-- ---- an element that was taken is idle

carried_keeps : (r : Reached) (from to : List ℕ) (own : Option Nominal) (bus : List ℕ) → is_reached r bus ≡ true
    → is_reached (carried from to own r) bus ≡ true
carried_keeps r from to own bus h = has_more r (carried from to own r) bus (carried_grows (nominal_at r from) to own r) h

carried_reaches : (r : Reached) (from to : List ℕ) (own : Option Nominal) → is_reached r from ≡ true
    → is_reached (carried from to own r) to ≡ true
carried_reaches r from to own h = by (nominal_at r from) h
  where
    by : (found : Option Nominal) → is_some found ≡ true → is_reached (carried_where found to own r) to ≡ true
    by None e = absurd (let no : false ≡ true = e in cc)
    by (Some there) e = has_reached r to _

both_idle : (p q : Bool) → p ≡ true → q ≡ true → cond p q (not q) ≡ true
both_idle true q h k = k
both_idle false q h k = absurd (let no : false ≡ true = h in cc)

neither_idle : (p q : Bool) → p ≡ false → q ≡ false → cond p q (not q) ≡ true
neither_idle p true h k = absurd (let no : true ≡ false = k in cc)
neither_idle true false h k = absurd (let no : true ≡ false = h in cc)
neither_idle false false h k = refl

abbrev are_idle : List ℕ → List ℕ → Reached → Bool
are_idle a b x = cond (is_reached x a) (is_reached x b) (not (is_reached x b))

joined_taken : (first : Option Bus) (at_first : Option Nominal) (second : Option Bus) (at_second : Option Nominal) (r : Reached)
    → is_idle_between first second (joined first at_first second at_second r) ≡ true
joined_taken (Some a) at_a (Some b) at_b r = by (is_reached r a.name) refl (is_reached r b.name) refl
  where
    s : Reached
    s = carried a.name b.name at_b r

    t : Reached
    t = carried b.name a.name at_a s

    by : (p : Bool) → is_reached r a.name ≡ p → (q : Bool) → is_reached r b.name ≡ q → are_idle a.name b.name t ≡ true
    by true here q there =
        let first : is_reached s a.name ≡ true = carried_keeps r a.name b.name at_b a.name here in
        let second : is_reached s b.name ≡ true = carried_reaches r a.name b.name at_b here in
        both_idle (is_reached t a.name) (is_reached t b.name) (carried_keeps s b.name a.name at_a a.name first)
        (carried_keeps s b.name a.name at_a b.name second)
    by false here true there =
        let second : is_reached s b.name ≡ true = carried_keeps r a.name b.name at_b b.name there in
        both_idle (is_reached t a.name) (is_reached t b.name) (carried_reaches s b.name a.name at_a second)
        (carried_keeps s b.name a.name at_a b.name second)
    by false here false there =
        let whole : t ≡ r = ap (carried b.name a.name at_a) (carried_nowhere r a.name b.name at_b here) ∙ carried_nowhere r b.name a.name at_a there in
        subst (λ x. are_idle a.name b.name x ≡ true) (sym whole)
        (neither_idle (is_reached r a.name) (is_reached r b.name) here there)
joined_taken (Some a) at_a None at_b r = refl
joined_taken None at_a b at_b r = refl

pub taken_idle : (e : Element) (r : Reached) → is_idle e (taken e r) ≡ true
taken_idle (the.Vsource v) r = has_reached r v.bus1.name (source_nominal v)
taken_idle (the.Line l) r = joined_taken l.bus1 None l.bus2 None r
taken_idle (the.Transformer t) r =
    joined_taken t.first.bus (Some (winding_nominal t.phases t.first)) t.second.bus
    (Some (winding_nominal t.phases t.second)) r
taken_idle e r = refl

-- ---- an element reaches one bus at most

-- as before, or with one bus more
abbrev pub OneMore : Reached → Reached → Type 0
OneMore r s = (s ≡ r) ⊎ ((b : List ℕ × Nominal) × (s ≡ r ++ b ∷ []))

reach_one : (found : Option Nominal) (bus : List ℕ) (nominal : Nominal) (r : Reached)
    → OneMore r (reach_where found bus nominal r)
reach_one None bus nominal r = inr ((bus, nominal), refl)
reach_one (Some there) bus nominal r = inl refl

carried_one : (found : Option Nominal) (to : List ℕ) (own : Option Nominal) (r : Reached)
    → OneMore r (carried_where found to own r)
carried_one None to own r = inl refl
carried_one (Some there) to own r = reach_one (nominal_at r to) to _ r

joined_one : (first : Option Bus) (at_first : Option Nominal) (second : Option Bus) (at_second : Option Nominal) (r : Reached)
    → OneMore r (joined first at_first second at_second r)
joined_one (Some a) at_a (Some b) at_b r = by (is_reached r a.name) refl
  where
    s : Reached
    s = carried a.name b.name at_b r

    t : Reached
    t = carried b.name a.name at_a s

    by : (p : Bool) → is_reached r a.name ≡ p → OneMore r t
    by true here =
        let same : t ≡ s = carried_before s b.name a.name at_a (carried_keeps r a.name b.name at_b a.name here) in
        subst (λ x. OneMore r x) (sym same) (carried_one (nominal_at r a.name) b.name at_b r)
    by false here =
        let same : s ≡ r = carried_nowhere r a.name b.name at_b here in
        subst (λ x. OneMore r (carried b.name a.name at_a x)) (sym same) (carried_one (nominal_at r b.name) a.name at_a r)
joined_one (Some a) at_a None at_b r = inl refl
joined_one None at_a b at_b r = inl refl

taken_one : (e : Element) (r : Reached) → OneMore r (taken e r)
taken_one (the.Vsource v) r = reach_one (nominal_at r v.bus1.name) v.bus1.name (source_nominal v) r
taken_one (the.Line l) r = joined_one l.bus1 None l.bus2 None r
taken_one (the.Transformer t) r =
    joined_one t.first.bus (Some (winding_nominal t.phases t.first)) t.second.bus
    (Some (winding_nominal t.phases t.second)) r
taken_one e r = inl refl

-- ---- an idle element stays so until a bus is new that it touches

apart_more : (test : List ℕ → Bool) (r : Reached) (bus : List ℕ) (nominal : Nominal) → test bus ≡ false
    → lookup test (r ++ (bus, nominal) ∷ []) ≡ lookup test r
apart_more test [] bus nominal h = rw h refl
apart_more test (e ∷ es) bus nominal h = ap (λ x. cond (test e.0) (Some e.1) x) (apart_more test es bus nominal h)

between_kept : (first second : Option Bus) (r : Reached) (bus : List ℕ) (nominal : Nominal)
    → is_idle_between first second r ≡ true → ends_touch first second bus ≡ false
    → is_idle_between first second (r ++ (bus, nominal) ∷ []) ≡ true
between_kept (Some a) (Some b) r bus nominal h apart =
    let parts = or_parts (text_eq a.name bus) (text_eq b.name bus) apart in
    let s : Reached = r ++ (bus, nominal) ∷ [] in
    let first : is_reached s a.name ≡ is_reached r a.name = ap is_some (apart_more (text_eq a.name) r bus nominal parts.0) in
    let second : is_reached s b.name ≡ is_reached r b.name = ap is_some (apart_more (text_eq b.name) r bus nominal parts.1) in
    ap (λ p. cond p (is_reached s b.name) (not (is_reached s b.name))) first
    ∙ ap (λ q. cond (is_reached r a.name) q (not q)) second
    ∙ h
between_kept (Some a) None r bus nominal h apart = refl
between_kept None b r bus nominal h apart = refl

idle_kept : (e : Element) (r : Reached) (bus : List ℕ) (nominal : Nominal) → is_idle e r ≡ true
    → touches e bus ≡ false → is_idle e (r ++ (bus, nominal) ∷ []) ≡ true
idle_kept (the.Vsource v) r bus nominal h apart =
    has_more r (r ++ (bus, nominal) ∷ []) v.bus1.name (record { more = (bus, nominal) ∷ []; is = refl }) h
idle_kept (the.Line l) r bus nominal h apart = between_kept l.bus1 l.bus2 r bus nominal h apart
idle_kept (the.Transformer t) r bus nominal h apart = between_kept t.first.bus t.second.bus r bus nominal h apart
idle_kept e r bus nominal h apart = refl

-- ---- the same of the element at a place

idle_at_same : (es : Elements) (q : ℕ) (r : Reached) → is_idle_at es q r ≡ true → taken_at es q r ≡ r
idle_at_same es q r h = by (slice_get es q) h
  where
    by : (found : Option (ElementName × Element)) → is_idle_where found r ≡ true → taken_where found r ≡ r
    by None e = refl
    by (Some entry) e = idle_same entry.1 r e

pub taken_at_idle : (es : Elements) (q : ℕ) (r : Reached) → is_idle_at es q (taken_at es q r) ≡ true
taken_at_idle es q r = by (slice_get es q)
  where
    by : (found : Option (ElementName × Element)) → is_idle_where found (taken_where found r) ≡ true
    by None = refl
    by (Some entry) = taken_idle entry.1 r

pub taken_at_one : (es : Elements) (q : ℕ) (r : Reached) → OneMore r (taken_at es q r)
taken_at_one es q r = by (slice_get es q)
  where
    by : (found : Option (ElementName × Element)) → OneMore r (taken_where found r)
    by None = inl refl
    by (Some entry) = taken_one entry.1 r

pub idle_at_kept : (es : Elements) (q : ℕ) (r : Reached) (bus : List ℕ) (nominal : Nominal) → is_idle_at es q r ≡ true
    → touches_at es q bus ≡ false → is_idle_at es q (r ++ (bus, nominal) ∷ []) ≡ true
idle_at_kept es q r bus nominal h apart = by (slice_get es q) h apart
  where
    by : (found : Option (ElementName × Element)) → is_idle_where found r ≡ true → touches_where found bus ≡ false
        → is_idle_where found (r ++ (bus, nominal) ∷ []) ≡ true
    by None e f = refl
    by (Some entry) e f = idle_kept entry.1 r bus nominal e f

pub touches_within : (es : Elements) (q : ℕ) (bus : List ℕ) → touches_at es q bus ≡ true → q < length es
touches_within es q bus h = by (slice_get es q) refl h
  where
    by : (found : Option (ElementName × Element)) → slice_get es q ≡ found → touches_where found bus ≡ true → q < length es
    by None e f = absurd (let no : false ≡ true = f in cc)
    by (Some entry) e f = slice_get_within es q entry e

-- ---- a pass, place by place

step_at : (es : Elements) (q : ℕ) (r : Reached) → pass (drop q es) r ≡ pass (drop (suc q) es) (taken_at es q r)
step_at [] zero r = refl
step_at [] (suc q) r = refl
step_at (e ∷ es) zero r = refl
step_at (e ∷ es) (suc q) r = step_at es q r

pub skipped : (k from : ℕ) (es : Elements) (r : Reached)
    → ((q : ℕ) → from ≤ q → q < k + from → is_idle_at es q r ≡ true)
    → pass (drop from es) r ≡ pass (drop (k + from) es) r
skipped zero from es r h = let none : from ≡ 0 + from = omega arith in ap (λ i. pass (drop i es) r) none
skipped (suc k) from es r h =
    let here : taken_at es from r ≡ r = idle_at_same es from r (h from (omega arith) (omega arith)) in
    let on : k + suc from ≡ suc k + from = omega arith in
    step_at es from r
    ∙ ap (pass (drop (suc from) es)) here
    ∙ skipped k (suc from) es r (λ q low high. h q (omega arith) (omega arith))
    ∙ ap (λ i. pass (drop i es) r) on

-- the elements from a place on, where the first that isn't idle stands at another
pub next_taken : (es : Elements) (from place : ℕ) (r : Reached) → from ≤ place
    → ((q : ℕ) → from ≤ q → q < place → is_idle_at es q r ≡ true)
    → pass (drop (place + 1) es) (taken_at es place r) ≡ pass (drop from es) r
next_taken es from place r low idle =
    let on : (place - from) + from ≡ place = omega arith in
    let more : suc place ≡ place + 1 = omega arith in
    let skip = skipped (place - from) from es r (λ q at_least below. idle q at_least (omega arith)) in
    sym (skip ∙ ap (λ i. pass (drop i es) r) on ∙ step_at es place r ∙ ap (λ i. pass (drop i es) (taken_at es place r)) more)

-- where all from a place on are idle, nothing more is reached
pub none_taken : (es : Elements) (from : ℕ) (r : Reached) → ((q : ℕ) → from ≤ q → is_idle_at es q r ≡ true)
    → pass (drop from es) r ≡ r
none_taken es from r idle =
    skipped (length es) from es r (λ q at_least below. idle q at_least)
    ∙ ap (λ xs. pass xs r) (drop_all (length es + from) es (omega arith))
