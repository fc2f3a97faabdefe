-- A pass adds buses behind those that are reached, and where it adds none no later pass adds any.
use Rattle.std.proofs.Common.{◌≡◌, ℕ, zero, suc, ◌+◌, ◌-◌, ◌<◌, Bool, true, false, cond, is_some, List, [], ◌∷◌, ◌++◌, length, Option, Some, None, refl, sym, ap, ◌∙◌, arith, append_assoc, length-append}
use Rattle.std.proofs.lemmas.List.{append-nil}
use Rattle.std.specs.Map.{lookup}
use Rattle.indexmap.specs.IndexMap.{insert_entry}
use Rattle.dss_layout.specs.dss_lexer.Texts.{text_eq}
use Rattle.dss_layout.specs.dss_model.declared.bus.Bus.{Bus}
use Rattle.dss_layout.specs.dss_model.declared.element.Element.{Element}
use Rattle.dss_layout.specs.dss_model.declared.element.Element.TheVariants as the
use Rattle.dss_circuit.specs.Circuit.{Elements}
use Rattle.fd_bases.specs.declared.nominal.Nominal.{Nominal}
use Rattle.fd_bases.specs.Nominals.{source_nominal, winding_nominal}
use Rattle.fd_bases.specs.Walk.{Reached, nominal_at, reach_where, reach, carried_where, carried, joined, taken, pass, passes, reached_in}

-- ---- what is reached stays

pub record Grows (before after : Reached) : Type 0 where
  pub more : Reached
  pub is : after ≡ before ++ more

pub same : (r : Reached) → Grows r r
same r = record { more = []; is = sym (append-nil r) }

pub chain : {r s t : Reached} → Grows r s → Grows s t → Grows r t
chain {r} {s} {t} h k = record { more = h.more ++ k.more; is = k.is ∙ ap (λ x. x ++ k.more) h.is ∙ append_assoc r h.more k.more }

pub reach_grows : (found : Option Nominal) (bus : List ℕ) (nominal : Nominal) (r : Reached)
    → Grows r (reach_where found bus nominal r)
reach_grows None bus nominal r = record { more = (bus, nominal) ∷ []; is = refl }
reach_grows (Some there) bus nominal r = same r

pub carried_grows : (found : Option Nominal) (to : List ℕ) (own : Option Nominal) (r : Reached)
    → Grows r (carried_where found to own r)
carried_grows None to own r = same r
carried_grows (Some there) to own r = reach_grows _ to _ r

joined_grows : (first : Option Bus) (at_first : Option Nominal) (second : Option Bus) (at_second : Option Nominal) (r : Reached)
    → Grows r (joined first at_first second at_second r)
joined_grows (Some a) at_a (Some b) at_b r =
    chain (carried_grows (nominal_at r a.name) b.name at_b r)
    (carried_grows (nominal_at (carried a.name b.name at_b r) b.name) a.name at_a (carried a.name b.name at_b r))
joined_grows (Some a) at_a None at_b r = same r
joined_grows None at_a b at_b r = same r

pub taken_grows : (e : Element) (r : Reached) → Grows r (taken e r)
taken_grows (the.Vsource v) r = reach_grows (nominal_at r v.bus1.name) v.bus1.name (source_nominal v) r
taken_grows (the.Line l) r = joined_grows l.bus1 None l.bus2 None r
taken_grows (the.Transformer t) r = joined_grows t.first.bus (Some (winding_nominal t.phases t.first)) t.second.bus (Some (winding_nominal t.phases t.second)) r
taken_grows e r = same r

pub pass_grows : (es : Elements) (r : Reached) → Grows r (pass es r)
pass_grows [] r = same r
pass_grows (e ∷ es) r = chain (taken_grows e.1 r) (pass_grows es (taken e.1 r))

none_more : (r more : Reached) → length (r ++ more) ≡ length r → r ++ more ≡ r
none_more r [] h = append-nil r
none_more r (b ∷ bs) h = absurd (omega (arith, length-append r (b ∷ bs)))

pub no_more : (r s : Reached) → Grows r s → length s ≡ length r → s ≡ r
no_more r s h e = h.is ∙ none_more r h.more (ap length (sym h.is) ∙ e)

-- ---- passes

pub stays : (n : ℕ) (es : Elements) (r : Reached) → pass es r ≡ r → passes n es r ≡ r
stays zero es r h = refl
stays (suc n) es r h = ap (passes n es) h ∙ stays n es r h

pub next_pass : (n k : ℕ) (es : Elements) (r : Reached) → k < n
    → passes (n - k) es r ≡ passes (n - (k + 1)) es (pass es r)
next_pass n k es r h = let e : n - k ≡ suc (n - (k + 1)) = omega arith in ap (λ m. passes m es r) e

-- the number of passes that are left is one less after each
pub more_passes : (n k : ℕ) (es : Elements) (r s : Reached) → k < n → s ≡ pass es r
    → passes (n - k) es r ≡ reached_in es → passes (n - (k + 1)) es s ≡ reached_in es
more_passes n k es r s h is so_far = ap (passes (n - (k + 1)) es) is ∙ sym (next_pass n k es r h) ∙ so_far

-- a pass that adds no bus is the last
pub last_pass : (n k : ℕ) (es : Elements) (r s : Reached) → k < n → s ≡ pass es r → length s ≡ length r
    → passes (n - k) es r ≡ reached_in es → s ≡ reached_in es
last_pass n k es r s h is same_length so_far =
    let none : pass es r ≡ r = no_more r (pass es r) (pass_grows es r) (ap length (sym is) ∙ same_length) in
    is ∙ none ∙ sym (stays (n - k) es r none) ∙ so_far

-- ---- a new bus goes last

inserted : (bus : List ℕ) (nominal : Nominal) (r : Reached) → is_some (lookup (text_eq bus) r) ≡ false
    → insert_entry text_eq r bus nominal ≡ r ++ (bus, nominal) ∷ []
inserted bus nominal [] h = refl
inserted bus nominal (e ∷ es) h = by (text_eq bus e.0) refl (inserted bus nominal es)
  where
    by : (b : Bool) → text_eq bus e.0 ≡ b
        → (is_some (lookup (text_eq bus) es) ≡ false → insert_entry text_eq es bus nominal ≡ es ++ (bus, nominal) ∷ [])
        → cond (text_eq bus e.0) ((e.0, nominal) ∷ es) (e ∷ insert_entry text_eq es bus nominal) ≡ e ∷ (es ++ (bus, nominal) ∷ [])
    by true is rest = absurd (let no : true ≡ false = rw is at h in cc)
    by false is rest = rw is (ap (λ x. e ∷ x) (rest (rw is at h)))

pub reach_new : (bus : List ℕ) (nominal : Nominal) (r : Reached) → is_some (nominal_at r bus) ≡ false
    → insert_entry text_eq r bus nominal ≡ reach bus nominal r
reach_new bus nominal r h = by (nominal_at r bus) h
  where
    by : (found : Option Nominal) → is_some found ≡ false
        → insert_entry text_eq r bus nominal ≡ reach_where found bus nominal r
    by None e = inserted bus nominal r h
    by (Some there) e = absurd (let no : true ≡ false = e in cc)
