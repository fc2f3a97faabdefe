-- A further pass reaches no bus: each pass that reaches one is the last to leave some element undone.
use Rattle.std.proofs.Common.{◌≡◌, ℕ, zero, suc, ◌+◌, ◌≤◌, ◌<◌, Bool, true, false, cond, ◌&&◌, List, [], ◌∷◌, ◌++◌, length, Option, Some, None, is_some, ◌⊎◌, inl, inr, refl, sym, ap, ◌∙◌, subst, arith}
use Rattle.std.specs.Map.{lookup}
use Rattle.std.specs.Cmp.Lexicographic.{nat_list_eq_equiv}
use Rattle.std.proofs.lemmas.Bool.{and_from}
use Rattle.dss_layout.specs.dss_lexer.Texts.{text_eq}
use Rattle.dss_layout.specs.dss_model.declared.bus.Bus.{Bus}
use Rattle.dss_layout.specs.dss_model.declared.element.Element.{Element}
use Rattle.dss_layout.specs.dss_model.declared.element.Element.TheVariants as the
use Rattle.dss_circuit.specs.Circuit.{Elements}
use Rattle.fd_bases.specs.declared.nominal.Nominal.{Nominal}
use Rattle.fd_bases.specs.Nominals.{source_nominal, winding_nominal}
use Rattle.fd_bases.specs.Walk.{Reached, nominal_at, reach_where, reach, carried_where, carried, joined, taken, pass, passes, reached_in}
use Rattle.fd_bases.specs.WalkLaws.{SettledLaw}
use Rattle.fd_bases.proofs.Walking.{Grows, chain, reach_grows, taken_grows, pass_grows, stays}

-- ---- what is reached stays reached

abbrev has : Reached → List ℕ → Bool
has r bus = is_some (nominal_at r bus)

found_more : (test : List ℕ → Bool) (r more : Reached) → is_some (lookup test r) ≡ true
    → is_some (lookup test (r ++ more)) ≡ true
found_more test [] more h = absurd (let e : false ≡ true = h in cc)
found_more test (e ∷ es) more h = by (test e.0) refl (found_more test es more)
  where
    by : (b : Bool) → test e.0 ≡ b → (is_some (lookup test es) ≡ true → is_some (lookup test (es ++ more)) ≡ true)
        → is_some (cond (test e.0) (Some e.1) (lookup test (es ++ more))) ≡ true
    by true is rest = rw is refl
    by false is rest = rw is (rest (rw is at h))

found_last : (bus : List ℕ) (nominal : Nominal) (r : Reached)
    → is_some (lookup (text_eq bus) (r ++ (bus, nominal) ∷ [])) ≡ true
found_last bus nominal [] = rw (nat_list_eq_equiv.refl bus) refl
found_last bus nominal (e ∷ es) = by (text_eq bus e.0) refl (found_last bus nominal es)
  where
    by : (b : Bool) → text_eq bus e.0 ≡ b → is_some (lookup (text_eq bus) (es ++ (bus, nominal) ∷ [])) ≡ true
        → is_some (cond (text_eq bus e.0) (Some e.1) (lookup (text_eq bus) (es ++ (bus, nominal) ∷ []))) ≡ true
    by true is rest = rw is refl
    by false is rest = rw is rest

pub has_more : (r s : Reached) (bus : List ℕ) → Grows r s → has r bus ≡ true → has s bus ≡ true
has_more r s bus grown h = ap (λ x. is_some (lookup (text_eq bus) x)) grown.is ∙ found_more (text_eq bus) r grown.more h

pub has_reached : (r : Reached) (bus : List ℕ) (nominal : Nominal) → has (reach bus nominal r) bus ≡ true
has_reached r bus nominal = by (nominal_at r bus) refl
  where
    by : (found : Option Nominal) → nominal_at r bus ≡ found
        → is_some (nominal_at (reach_where found bus nominal r) bus) ≡ true
    by None e = found_last bus nominal r
    by (Some there) e = ap is_some e

-- a bus that is reached already changes nothing
pub reached_before : (r : Reached) (bus : List ℕ) (nominal : Nominal) → has r bus ≡ true → reach bus nominal r ≡ r
reached_before r bus nominal h = by (nominal_at r bus) h
  where
    by : (found : Option Nominal) → is_some found ≡ true → reach_where found bus nominal r ≡ r
    by None e = absurd (let no : false ≡ true = e in cc)
    by (Some there) e = refl

pub carried_before : (r : Reached) (from to : List ℕ) (own : Option Nominal) → has r to ≡ true → carried from to own r ≡ r
carried_before r from to own h = by (nominal_at r from)
  where
    by : (found : Option Nominal) → carried_where found to own r ≡ r
    by None = refl
    by (Some there) = reached_before r to _ h

-- ---- an element is done where no later pass changes anything by it

abbrev both : Option Bus → Option Bus → Reached → Bool
both (Some a) (Some b) r = has r a.name && has r b.name
both (Some a) None r = true
both None b r = true

abbrev is_done : Element → Reached → Bool
is_done (the.Vsource v) r = has r v.bus1.name
is_done (the.Line l) r = both l.bus1 l.bus2 r
is_done (the.Transformer t) r = both t.first.bus t.second.bus r
is_done other r = true

and_left : (b c : Bool) → (b && c) ≡ true → b ≡ true
and_left true c h = refl
and_left false c h = h

and_right : (b c : Bool) → (b && c) ≡ true → c ≡ true
and_right true c h = h
and_right false c h = absurd (let no : false ≡ true = h in cc)

joined_same : (first : Option Bus) (at_first : Option Nominal) (second : Option Bus) (at_second : Option Nominal) (r : Reached)
    → both first second r ≡ true → joined first at_first second at_second r ≡ r
joined_same (Some a) at_a (Some b) at_b r h =
    ap (carried b.name a.name at_a) (carried_before r a.name b.name at_b (and_right (has r a.name) (has r b.name) h))
    ∙ carried_before r b.name a.name at_a (and_left (has r a.name) (has r b.name) h)
joined_same (Some a) at_a None at_b r h = refl
joined_same None at_a b at_b r h = refl

done_same : (e : Element) (r : Reached) → is_done e r ≡ true → taken e r ≡ r
done_same (the.Vsource v) r h = reached_before r v.bus1.name (source_nominal v) h
done_same (the.Line l) r h = joined_same l.bus1 None l.bus2 None r h
done_same (the.Transformer t) r h =
    joined_same t.first.bus (Some (winding_nominal t.phases t.first)) t.second.bus
    (Some (winding_nominal t.phases t.second)) r h
done_same e r h = refl

both_kept : (first second : Option Bus) (r s : Reached) → Grows r s → both first second r ≡ true
    → both first second s ≡ true
both_kept (Some a) (Some b) r s grown h =
    and_from (has s a.name) (has s b.name)
    (has_more r s a.name grown (and_left (has r a.name) (has r b.name) h))
    (has_more r s b.name grown (and_right (has r a.name) (has r b.name) h))
both_kept (Some a) None r s grown h = refl
both_kept None b r s grown h = refl

done_kept : (e : Element) (r s : Reached) → Grows r s → is_done e r ≡ true → is_done e s ≡ true
done_kept (the.Vsource v) r s grown h = has_more r s v.bus1.name grown h
done_kept (the.Line l) r s grown h = both_kept l.bus1 l.bus2 r s grown h
done_kept (the.Transformer t) r s grown h = both_kept t.first.bus t.second.bus r s grown h
done_kept e r s grown h = refl

-- where one of two buses is reached, both are afterwards
carried_both : (a b : List ℕ) (own : Option Nominal) (r : Reached)
    → (carried a b own r ≡ r) ⊎ ((has (carried a b own r) a ≡ true) × (has (carried a b own r) b ≡ true))
carried_both a b own r = by (nominal_at r a) refl
  where
    by : (found : Option Nominal) → nominal_at r a ≡ found
        → (carried_where found b own r ≡ r) ⊎ ((has (carried_where found b own r) a ≡ true) × (has (carried_where found b own r) b ≡ true))
    by None e = inl refl
    by (Some there) e = inr (has_more r _ a (reach_grows (nominal_at r b) b _ r) (ap is_some e), has_reached r b _)

joined_both : (first : Option Bus) (at_first : Option Nominal) (second : Option Bus) (at_second : Option Nominal) (r : Reached)
    → (joined first at_first second at_second r ≡ r) ⊎ (both first second (joined first at_first second at_second r) ≡ true)
joined_both (Some a) at_a (Some b) at_b r = by (carried_both a.name b.name at_b r)
  where
    s : Reached
    s = carried a.name b.name at_b r

    t : Reached
    t = carried b.name a.name at_a s

    behind : s ≡ r → (t ≡ s) ⊎ ((has t b.name ≡ true) × (has t a.name ≡ true))
        → (t ≡ r) ⊎ ((has t a.name && has t b.name) ≡ true)
    behind e (inl f) = inl (f ∙ e)
    behind e (inr f) = inr (and_from (has t a.name) (has t b.name) f.1 f.0)

    by : (s ≡ r) ⊎ ((has s a.name ≡ true) × (has s b.name ≡ true)) → (t ≡ r) ⊎ ((has t a.name && has t b.name) ≡ true)
    by (inl e) = behind e (carried_both b.name a.name at_a s)
    by (inr f) =
        let same_is : t ≡ s = carried_before s b.name a.name at_a f.0 in
        inr (subst (λ x. (has x a.name && has x b.name) ≡ true) (sym same_is) (and_from (has s a.name) (has s b.name) f.0 f.1))
joined_both (Some a) at_a None at_b r = inl refl
joined_both None at_a b at_b r = inl refl

-- an element that changes something is done
once : (e : Element) (r : Reached) → (taken e r ≡ r) ⊎ (is_done e (taken e r) ≡ true)
once (the.Vsource v) r = inr (has_reached r v.bus1.name (source_nominal v))
once (the.Line l) r = joined_both l.bus1 None l.bus2 None r
once (the.Transformer t) r = joined_both t.first.bus (Some (winding_nominal t.phases t.first)) t.second.bus (Some (winding_nominal t.phases t.second)) r
once e r = inl refl

-- ---- how many elements are done

abbrev one : Bool → ℕ
one b = cond b 1 0

abbrev done_count : Elements → Reached → ℕ
done_count [] r = 0
done_count (e ∷ es) r = one (is_done e.1 r) + done_count es r

at_most_one : (b : Bool) → one b ≤ 1
at_most_one true = omega arith
at_most_one false = omega arith

one_kept : (b c : Bool) → (b ≡ true → c ≡ true) → one b ≤ one c
one_kept true c h = rw (h refl) (omega arith)
one_kept false c h = omega arith

done_most : (es : Elements) (r : Reached) → done_count es r ≤ length es
done_most [] r = omega arith
done_most (e ∷ es) r = omega (arith, at_most_one (is_done e.1 r), done_most es r)

count_kept : (es : Elements) (r s : Reached) → Grows r s → done_count es r ≤ done_count es s
count_kept [] r s grown = omega arith
count_kept (e ∷ es) r s grown = omega (arith, one_kept (is_done e.1 r) (is_done e.1 s) (done_kept e.1 r s grown), count_kept es r s grown)

-- an element changes nothing, or it wasn't done and is
first_time : (e : Element) (r : Reached) → (taken e r ≡ r) ⊎ ((is_done e r ≡ false) × (is_done e (taken e r) ≡ true))
first_time e r = by (is_done e r) refl (once e r)
  where
    by : (b : Bool) → is_done e r ≡ b → (taken e r ≡ r) ⊎ (is_done e (taken e r) ≡ true)
        → (taken e r ≡ r) ⊎ ((is_done e r ≡ false) × (is_done e (taken e r) ≡ true))
    by true is h = inl (done_same e r is)
    by false is (inl h) = inl h
    by false is (inr h) = inr (is, h)

-- a pass changes nothing, or more elements are done
pass_counts : (es : Elements) (r : Reached) → (pass es r ≡ r) ⊎ (done_count es r < done_count es (pass es r))
pass_counts [] r = inl refl
pass_counts (e ∷ es) r = by (first_time e.1 r) (pass_counts es r)
  where
    s : Reached
    s = taken e.1 r

    t : Reached
    t = pass es s

    grown : Grows r t
    grown = chain (taken_grows e.1 r) (pass_grows es s)

    kept_first : one (is_done e.1 r) ≤ one (is_done e.1 t)
    kept_first = one_kept (is_done e.1 r) (is_done e.1 t) (done_kept e.1 r t grown)

    unchanged : s ≡ r → (pass es r ≡ r) ⊎ (done_count es r < done_count es (pass es r))
        → (t ≡ r) ⊎ (done_count (e ∷ es) r < done_count (e ∷ es) t)
    unchanged f (inl h) = inl (ap (pass es) f ∙ h)
    unchanged f (inr h) =
        inr (let more : done_count es r < done_count es t =
        subst (λ x. done_count es r < done_count es (pass es x)) (sym f) h in
        omega (arith, kept_first, more))

    by : (s ≡ r) ⊎ ((is_done e.1 r ≡ false) × (is_done e.1 s ≡ true))
        → (pass es r ≡ r) ⊎ (done_count es r < done_count es (pass es r))
        → (t ≡ r) ⊎ (done_count (e ∷ es) r < done_count (e ∷ es) t)
    by (inl f) h = unchanged f h
    by (inr f) h =
        let before : one (is_done e.1 r) ≡ 0 = ap one f.0 in
        let after : one (is_done e.1 t) ≡ 1 = ap one (done_kept e.1 s t (pass_grows es s) f.1) in
        inr (omega (arith, before, after, count_kept es r t grown))

-- as many passes as there are elements that aren't done are enough
settles : (n : ℕ) (es : Elements) (r : Reached) → length es ≤ n + done_count es r
    → pass es (passes n es r) ≡ passes n es r
settles zero es r h = by (pass_counts es r)
  where
    by : (pass es r ≡ r) ⊎ (done_count es r < done_count es (pass es r)) → pass es r ≡ r
    by (inl e) = e
    by (inr more) = absurd (omega (arith, h, more, done_most es (pass es r)))
settles (suc n) es r h = by (pass_counts es r) (λ enough. settles n es (pass es r) enough)
  where
    by : (pass es r ≡ r) ⊎ (done_count es r < done_count es (pass es r))
        → (length es ≤ n + done_count es (pass es r) → pass es (passes n es (pass es r)) ≡ passes n es (pass es r))
        → pass es (passes n es (pass es r)) ≡ passes n es (pass es r)
    by (inl e) rest = let whole : passes n es (pass es r) ≡ r = ap (passes n es) e ∙ stays n es r e in ap (pass es) whole ∙ e ∙ sym whole
    by (inr more) rest = rest (omega (arith, h, more))

pub settled : SettledLaw
unfolding reached_in
settled es = settles (length es) es [] (omega arith)
