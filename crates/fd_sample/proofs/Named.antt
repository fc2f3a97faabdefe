-- Elements that stand where a control's properties name them, and the probe that is made of a control.
use Rattle.std.proofs.Common.{◌≡◌, ℕ, ◌+◌, ◌<◌, ◌≤◌, ◌⊎◌, ⊎_elim, List, map, get_or, slice_get, Option, Some, None, refl, sym, ap, ◌∙◌, subst, arith, Bool, true, false, zero, suc, [], ◌∷◌}
use Rattle.std.specs.Prelude.{All, IfSome, if◌then◌else◌}
use Rattle.std.specs.Map.{lookup}
use Rattle.std.specs.Option.{option_and_then, option_map}
use Rattle.std.proofs.lemmas.List.Quantifiers.{position-Some}
use Rattle.std.proofs.lemmas.Option.{get_or_from_slice_get, option_and_then_some, same_Some, slice_get-get_or, slice_get-map}
use Rattle.fd_network.specs.fd_exact.Sums.{list_n}
use Rattle.fd_network.specs.dss_model.Element.{class_of}
use Rattle.fd_network.specs.dss_model.SameElement.{same_element}
use Rattle.fd_network.specs.dss_model.declared.capcontrol.CapControl.{CapControl}
use Rattle.fd_network.specs.dss_model.declared.element.Element.{Element}
use Rattle.fd_network.specs.dss_model.declared.element.Element.TheVariants as the
use Rattle.fd_network.specs.dss_model.declared.line.Line.{Line}
use Rattle.fd_network.specs.dss_model.declared.names.Class.{Class}
use Rattle.fd_network.specs.dss_model.declared.names.Class.TheVariants as class
use Rattle.fd_network.specs.dss_model.declared.names.ElementName.{ElementName}
use Rattle.fd_network.specs.dss_model.declared.regcontrol.RegControl.{RegControl}
use Rattle.fd_network.specs.dss_model.declared.transformer.Transformer.{Transformer}
use Rattle.fd_network.proofs.CallerLemmas.dss_model.{equal}
use Rattle.fd_network.specs.dss_circuit.WellFormed.{IsEntry}
use Rattle.fd_network.specs.dss_layout.Layout.{Elements}
use Rattle.fd_network.specs.dss_circuit.Lookups.{element_given}
use Rattle.fd_network.specs.fd_devices.Settings.{bank_count, tap_count}
use Rattle.fd_network.proofs.CallerLemmas.fd_devices.{all_at, one_bank, one_transformer}
use Rattle.fd_sample.specs.declared.probe.CapProbe.{CapProbe}
use Rattle.fd_sample.specs.declared.probe.Probe.{Probe}
use Rattle.fd_sample.specs.declared.probe.Probe.TheVariants as probe
use Rattle.fd_sample.specs.declared.probe.RegProbe.{RegProbe}
use Rattle.fd_sample.specs.Circuits.{IsCapProbeIn, IsProbeOf, IsRegProbeIn, banks_before, cap_probe_at, cap_probe_in, element_at, line_in, place_given, probe_in, reg_probe_at, reg_probe_in, transformer_in, transformers_before}
use Rattle.fd_sample.proofs.Listed.{front_least, fronts_in_order}
use Rattle.fd_sample.proofs.Places.{count_next}
use Rattle.fd_sample.proofs.Standing.{line_back, transformer_back}

-- ---- the element at the place that a property names

-- the first that passes a test is the one that is looked up
first_found : (p : ElementName → Bool) (es : Elements) (place : ℕ) (e : ElementName × Element)
    → slice_get es place ≡ Some e → p e.0 ≡ true →
    ((k : ℕ) (x : ElementName × Element) → k < place → slice_get es k ≡ Some x → p x.0 ≡ false) → lookup p es ≡ Some e.1
first_found p [] place e at own before = absurd (cc)
first_found p (x ∷ es) zero e at own before =
    let same : x ≡ e = cc in
    ap (λ (y : ElementName × Element). if p y.0 then Some y.1 else lookup p es) same ∙ ap (λ b. if b then Some e.1 else lookup p es) own
first_found p (x ∷ es) (suc k) e at own before =
    ap (λ b. if b then Some x.1 else lookup p es) (before zero x (omega arith) refl)
    ∙ first_found p es k e at own (λ i y less there. before (suc i) y (omega (arith, less)) there)

record HasName (o : Option (ElementName × Element)) (name : ElementName) : Type 0 where
  entry : ElementName × Element
  is : o ≡ Some entry
  name_is : entry.0 ≡ name

name_of : (o : Option (ElementName × Element)) (name : ElementName) → option_map (λ x. x.0) o ≡ Some name
    → HasName o name
name_of None name h = absurd (cc)
name_of (Some x) name h = record { entry = x; is = refl; name_is = cc }

pub record IsPlaced (es : Elements) (kind : Class) (given : Option (List ℕ)) (place : ℕ) : Type 0 where
  pub name : List ℕ
  pub given_is : given ≡ Some name
  pub entry : ElementName × Element
  pub there : slice_get es place ≡ Some entry
  pub key : entry.0.name ≡ name
  pub class : kind ≡ class_of entry.1
  pub found : element_given es kind given ≡ Some entry.1

pub placed : (es : Elements) (kind : Class) (given : Option (List ℕ)) (place : ℕ) → All IsEntry es
    → place_given es kind given ≡ Some place → IsPlaced es kind given place
placed es kind None place keys h = absurd (cc)
placed es kind (Some name) place keys h =
    let own : ElementName = record { class = kind; name = name } in
    let names = map (λ (e : ElementName × Element). e.0) es in
    let at = position-Some (same_element own) names place own h in
    let found = name_of (slice_get es place) (get_or names place own)
    (sym (slice_get-map (λ (e : ElementName × Element). e.0) es place) ∙ slice_get-get_or names place own at.0) in
    let same : own ≡ found.entry.0 = (equal own (get_or names place own)).0 at.1 ∙ sym found.name_is in
    let before : (k : ℕ) (x : ElementName × Element) → k < place → slice_get es k ≡ Some x → same_element own x.0 ≡ false = λ k x less there.
    let name_is : get_or names k own ≡ x.0 = get_or_from_slice_get names k x.0 own
    (slice_get-map (λ (e : ElementName × Element). e.0) es k ∙ ap (option_map (λ (e : ElementName × Element). e.0)) there) in
    subst (λ (n : ElementName). same_element own n ≡ false) name_is (at.2 k less) in
    record {
      name = name;
      given_is = refl;
      entry = found.entry;
      there = found.is;
      key = sym (ap (λ (n : ElementName). n.name) same);
      class = ap (λ (n : ElementName). n.class) same ∙ (all_at IsEntry es place found.entry keys found.is).class;
      found = first_found (same_element own) es place found.entry found.is ((equal own found.entry.0).1 same) before;
    }

-- it is the one that the property names
pub found_at : (es : Elements) (kind : Class) (given : Option (List ℕ)) (place : ℕ) → All IsEntry es
    → place_given es kind given ≡ Some place →
    element_at es place ≡ element_given es kind given
found_at es kind given place keys h =
    let own = placed es kind given place keys h in
    ap (option_map (λ (e : ElementName × Element). e.1)) own.there ∙ sym own.found

pub transformer_placed : (es : Elements) (given : Option (List ℕ)) (place : ℕ) (p : IsPlaced es class.Transformer given place)
    → tap_count p.entry.1 ≡ 1
transformer_placed es given place p = one_transformer p.entry.1 p.class

pub bank_placed : (es : Elements) (given : Option (List ℕ)) (place : ℕ) (p : IsPlaced es class.Capacitor given place)
    → bank_count p.entry.1 ≡ 1
bank_placed es given place p = one_bank p.entry.1 p.class

-- ---- numbers among their kind

pub transformer_below : (es : Elements) (k : ℕ) (e : ElementName × Element) → slice_get es k ≡ Some e
    → tap_count e.1 ≡ 1 →
    transformers_before es k < list_n (λ x. tap_count x.1) es
transformer_below es k e h one =
    let most : transformers_before es (k + 1) ≤ list_n (λ x. tap_count x.1) es = front_least (λ (x : ElementName × Element). tap_count x.1) (k + 1) es in
    omega (arith, count_next tap_count es k e h, one, most)

pub bank_below : (es : Elements) (k : ℕ) (e : ElementName × Element) → slice_get es k ≡ Some e → bank_count e.1 ≡ 1 →
    banks_before es k < list_n (λ x. bank_count x.1) es
bank_below es k e h one =
    let most : banks_before es (k + 1) ≤ list_n (λ x. bank_count x.1) es = front_least (λ (x : ElementName × Element). bank_count x.1) (k + 1) es in
    omega (arith, count_next bank_count es k e h, one, most)

bank_less : (es : Elements) (a b : ℕ) (e : ElementName × Element) → slice_get es a ≡ Some e → bank_count e.1 ≡ 1 → a < b
    → banks_before es a < banks_before es b
bank_less es a b e h one less =
    let most : banks_before es (a + 1) ≤ banks_before es b = fronts_in_order (λ (x : ElementName × Element). bank_count x.1) (a + 1) b es (omega arith) in
    omega (arith, count_next bank_count es a e h, one, most)

in_order : (a b : ℕ) → (a < b) ⊎ ((a ≡ b) ⊎ (b < a))
in_order a b = grind arith

-- banks at two places have two numbers
pub one_place : (es : Elements) (a b : ℕ) (x y : ElementName × Element) → slice_get es a ≡ Some x → bank_count x.1 ≡ 1 →
    slice_get es b ≡ Some y → bank_count y.1 ≡ 1 → banks_before es a ≡ banks_before es b → a ≡ b
one_place es a b x y h one k two same = ⊎_elim (λ less. absurd (omega (arith, bank_less es a b x h one less, same)))
    (λ rest. ⊎_elim (λ e. e) (λ less. absurd (omega (arith, bank_less es b a y k two less, same))) rest)
    (in_order a b)

transformer_less : (es : Elements) (a b : ℕ) (e : ElementName × Element) → slice_get es a ≡ Some e → tap_count e.1 ≡ 1
    → a < b →
    transformers_before es a < transformers_before es b
transformer_less es a b e h one less =
    let most : transformers_before es (a + 1) ≤ transformers_before es b =
    fronts_in_order (λ (x : ElementName × Element). tap_count x.1) (a + 1) b es (omega arith) in
    omega (arith, count_next tap_count es a e h, one, most)

-- transformers at two places have two numbers
pub one_transformer_place : (es : Elements) (a b : ℕ) (x y : ElementName × Element) → slice_get es a ≡ Some x
    → tap_count x.1 ≡ 1 →
    slice_get es b ≡ Some y → tap_count y.1 ≡ 1 → transformers_before es a ≡ transformers_before es b → a ≡ b
one_transformer_place es a b x y h one k two same = ⊎_elim (λ less. absurd (omega (arith, transformer_less es a b x h one less, same)))
    (λ rest. ⊎_elim (λ e. e) (λ less. absurd (omega (arith, transformer_less es b a y k two less, same))) rest)
    (in_order a b)

-- ---- the probe of a control

reg_by : (es : Elements) (control : RegControl) (p : RegProbe) (place : ℕ)
    → place_given es class.Transformer control.transformer ≡ Some place →
    (o : Option Transformer) → option_and_then transformer_in (element_at es place) ≡ o → reg_probe_at es control place o ≡ Some p → IsRegProbeIn es control p
reg_by es control p place found None at h = absurd (cc)
reg_by es control p place found (Some t) at h = option_and_then_some transformer_in (element_at es place) t at (λ e there back. record {
  place = place;
  transformer = t;
  found = found;
  there = there ∙ ap Some (transformer_back e t back);
  probe = sym (same_Some _ _ h);
})

pub reg_back : (es : Elements) (control : RegControl) (p : RegProbe) → reg_probe_in es control ≡ Some p
    → IsRegProbeIn es control p
reg_back es control p h = option_and_then_some (λ place. reg_probe_at es control place (option_and_then transformer_in (element_at es place)))
    (place_given es class.Transformer control.transformer) p h
    (λ place found made. reg_by es control p place found (option_and_then transformer_in (element_at es place)) refl made)

cap_by : (es : Elements) (control : CapControl) (p : CapProbe) (place : ℕ)
    → place_given es class.Line control.element ≡ Some place →
    (o : Option Line) → option_and_then line_in (element_at es place) ≡ o → (bank : Option ℕ) → place_given es class.Capacitor control.capacitor ≡ bank →
    cap_probe_at es control place o bank ≡ Some p → IsCapProbeIn es control p
cap_by es control p place found None at bank bank_found h = absurd (cc)
cap_by es control p place found (Some l) at None bank_found h = absurd (cc)
cap_by es control p place found (Some l) at (Some bank) bank_found h = option_and_then_some line_in (element_at es place) l at (λ e there back. record {
  place = place;
  line = l;
  found = found;
  there = there ∙ ap Some (line_back e l back);
  bank = bank;
  bank_found = bank_found;
  probe = sym (same_Some _ _ h);
})

pub cap_back : (es : Elements) (control : CapControl) (p : CapProbe) → cap_probe_in es control ≡ Some p
    → IsCapProbeIn es control p
cap_back es control p h =
    option_and_then_some (λ place.
    cap_probe_at es control place (option_and_then line_in (element_at es place))
    (place_given es class.Capacitor control.capacitor))
    (place_given es class.Line control.element) p h (λ place found made.
    cap_by es control p place found (option_and_then line_in (element_at es place)) refl
    (place_given es class.Capacitor control.capacitor) refl made)

reg_forth : (es : Elements) (control : RegControl) (p : RegProbe) → IsRegProbeIn es control p
    → Some p ≡ reg_probe_in es control
reg_forth es control p r =
    ap Some r.probe
    ∙ ap (λ (o : Option Element). reg_probe_at es control r.place (option_and_then transformer_in o)) (sym r.there)
    ∙ ap (option_and_then (λ place. reg_probe_at es control place (option_and_then transformer_in (element_at es place)))) (sym r.found)

cap_forth : (es : Elements) (control : CapControl) (p : CapProbe) → IsCapProbeIn es control p
    → Some p ≡ cap_probe_in es control
cap_forth es control p r =
    ap Some r.probe
    ∙ ap (λ (o : Option ℕ). cap_probe_at es control r.place (Some r.line) o) (sym r.bank_found)
    ∙ ap (λ (o : Option Element).
    cap_probe_at es control r.place (option_and_then line_in o) (place_given es class.Capacitor control.capacitor))
    (sym r.there)
    ∙ ap (option_and_then (λ place. cap_probe_at es control place (option_and_then line_in (element_at es place))
    (place_given es class.Capacitor control.capacitor)))
    (sym r.found)

-- what stands for an element's probe is the one that its definition gives
pub probe_of : (es : Elements) (e : Element) (o : Option Probe) → IsProbeOf es (Some e) o → o ≡ probe_in es e
probe_of es (the.RegControl control) (Some (probe.Regulator p)) h = ap (option_map probe.Regulator) (reg_forth es control p h)
probe_of es (the.RegControl control) (Some (probe.Bank p)) h = absurd h
probe_of es (the.RegControl control) None h = absurd h
probe_of es (the.CapControl control) (Some (probe.Bank p)) h = ap (option_map probe.Bank) (cap_forth es control p h)
probe_of es (the.CapControl control) (Some (probe.Regulator p)) h = absurd h
probe_of es (the.CapControl control) None h = absurd h
probe_of es e None h = refl
probe_of es e (Some p) h = absurd h

-- what holds of the probe of each kind of control holds of an element's
module _ (es : Elements) (P : Probe → Type 0) where
  some_regulator : (control : RegControl) (o : Option RegProbe) → reg_probe_in es control ≡ o →
      ((p : RegProbe) → IsRegProbeIn es control p → P (probe.Regulator p)) → IfSome (option_map probe.Regulator o) P
  some_regulator control None e h = tt
  some_regulator control (Some p) e h = h p (reg_back es control p e)

  some_bank : (control : CapControl) (o : Option CapProbe) → cap_probe_in es control ≡ o →
      ((p : CapProbe) → IsCapProbeIn es control p → P (probe.Bank p)) → IfSome (option_map probe.Bank o) P
  some_bank control None e h = tt
  some_bank control (Some p) e h = h p (cap_back es control p e)

  pub by_kind : (e : Element)
      → ((control : RegControl) (p : RegProbe) → e ≡ the.RegControl control → IsRegProbeIn es control p → P (probe.Regulator p)) →
      ((control : CapControl) (p : CapProbe) → e ≡ the.CapControl control → IsCapProbeIn es control p → P (probe.Bank p)) → IfSome (probe_in es e) P
  by_kind (the.RegControl control) f g = some_regulator control (reg_probe_in es control) refl (λ p r. f control p refl r)
  by_kind (the.CapControl control) f g = some_bank control (cap_probe_in es control) refl (λ p r. g control p refl r)
  by_kind e f g = tt
