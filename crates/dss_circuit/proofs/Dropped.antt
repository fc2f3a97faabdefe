-- What the elements of every circuit are stays so where those of one class are taken out.
use Rattle.std.proofs.Common.{rules, ◌≡◌, ◌≢◌, ◌⊎◌, inl, inr, ℕ, ◌==◌, ◌∙◌, Bool, true, false, cond, not, if◌then◌else◌, List, [], ◌∷◌, Option, Some, None, IsSome, OnSome, All, refl, sym, ap, subst}
use Rattle.std.specs.Map.{lookup}
use Rattle.std.proofs.lemmas.Bool.{and_from, false≢true}
use Rattle.std.proofs.lemmas.List.Elements.{All-nil, All-cons, All-head, All-tail, All-filter}
use Rattle.std.proofs.lemmas.Map.Made.{IsDistinct-keys_filter}
use Rattle.dss_model.specs.declared.element.Element.{Element}
use Rattle.dss_model.specs.declared.element.Element.TheVariants as the
use Rattle.dss_model.specs.declared.names.Class.{Class}
use Rattle.dss_model.specs.declared.names.Class.TheVariants as class
use Rattle.dss_model.specs.declared.names.ElementName.{ElementName}
use Rattle.dss_model.specs.InRange.{ElementInRange}
use Rattle.dss_model.specs.SameElement.{class_number, same_element}
use Rattle.dss_model.proofs.CallerLemmas.{equal}
use Rattle.dss_circuit.specs.Circuit.{Elements}
use Rattle.dss_circuit.specs.InRange.{AllInRange}
use Rattle.dss_circuit.specs.WellFormed.{AreWellFormed, BeginsWithSource, IsEntry, IsThere, NamesAreThere}
use Rattle.dss_circuit.specs.Without.{NamesNone, OthersNameNone, is_of_other, without}

-- classes of one number are one
pub one_class : (a b : Class) → (class_number a == class_number b) ≡ true → a ≡ b
one_class a b t =
    ap (λ (n : ElementName). n.class)
    ((equal (record { class = a; name = [] }) (record { class = b; name = [] })).0 (and_from _ _ t refl))

not_false : (b : Bool) → not b ≡ false → b ≡ true
not_false true h = refl
not_false false h = cc h

false_where : (b : Bool) → (b ≡ true → ⊥) → b ≡ false
false_where true h = absurd (h refl)
false_where false h = refl

module _ (dropped : Class) where
  -- an element that goes is of the class
  pub gone : (e : ElementName × Element) → is_of_other dropped e ≡ false → e.0.class ≡ dropped
  gone e h = one_class e.0.class dropped (not_false _ h)

  -- an element of another class is found as before
  pub found_as_before : (name : ElementName) → name.class ≢ dropped → (es : Elements)
      → lookup (same_element name) (without dropped es) ≡ lookup (same_element name) es
  found_as_before name other [] = refl
  found_as_before name other (e ∷ es) = by (is_of_other dropped e) refl (found_as_before name other es)
    where
      by : (b : Bool) → is_of_other dropped e ≡ b
          → lookup (same_element name) (without dropped es) ≡ lookup (same_element name) es
          → lookup (same_element name) (cond b (e ∷ without dropped es) (without dropped es))
          ≡ (if same_element name e.0 then Some e.1 else lookup (same_element name) es)
      by true t rest = ap (λ (o : Option Element). if same_element name e.0 then Some e.1 else o) rest
      by false t rest =
          let differs =
          false_where (same_element name e.0)
          (λ s. other (ap (λ (n : ElementName). n.class) ((equal name e.0).0 s) ∙ gone e t)) in
          rest ∙ ap (λ (b : Bool). if b then Some e.1 else lookup (same_element name) es) (sym differs)

  name_left : (es : Elements) (c : Class) (given : Option (List ℕ)) → OnSome given (dropped ≢ c) → IsThere es c given
      → IsThere (without dropped es) c given
  name_left es c None n h = h
  name_left es c (Some name) n h =
      subst (λ (o : Option Element). IsSome o)
      (sym (found_as_before (record { class = c; name = name }) (λ e. n (sym e)) es)) h

  names_left : (es : Elements) (e : Element) → NamesNone dropped e → NamesAreThere es e
      → NamesAreThere (without dropped es) e
  names_left es (the.Line line) n h = name_left es class.Linecode line.linecode n h
  names_left es (the.Load load) n h = name_left es class.Loadshape load.daily n h
  names_left es (the.RegControl control) n h = name_left es class.Transformer control.transformer n h
  names_left es (the.CapControl control) n h =
      (name_left es class.Line control.element n.0 h.0, name_left es class.Capacitor control.capacitor n.1 h.1)
  names_left es (the.Vsource source) n h = tt
  names_left es (the.Linecode code) n h = tt
  names_left es (the.Transformer xfmr) n h = tt
  names_left es (the.Capacitor bank) n h = tt
  names_left es (the.Loadshape shape) n h = tt

  abbrev Fact : ElementName × Element → Type 0
  Fact e = (e.0.class ≡ dropped) ⊎ NamesNone dropped e.1

  abbrev There : Elements → ElementName × Element → Type 0
  There all e = NamesAreThere all e.1

  -- what each that stays names is there
  all_left : (all es : Elements) → All Fact es → All (There all) es → All (There (without dropped all)) (without dropped es)
  all_left all [] n h = All-nil (There (without dropped all))
  all_left all (e ∷ es) n h =
      by (is_of_other dropped e) refl (all_left all es (All-tail Fact e es n) (All-tail (There all) e es h))
    where
      here : not (class_number dropped == class_number dropped) ≡ false
      here = search rules

      own : is_of_other dropped e ≡ true → Fact e → NamesAreThere (without dropped all) e.1
      own t (inl same) =
          let e_is : is_of_other dropped e ≡ false = ap (λ (c : Class). not (class_number c == class_number dropped)) same ∙ here in
          absurd (false≢true (sym e_is ∙ t))
      own t (inr none) = names_left all e.1 none (All-head (There all) e es h)

      by : (b : Bool) → is_of_other dropped e ≡ b → All (There (without dropped all)) (without dropped es)
          → All (There (without dropped all)) (cond b (e ∷ without dropped es) (without dropped es))
      by true t rest = All-cons (There (without dropped all)) e (without dropped es) (own t (All-head Fact e es n)) rest
      by false t rest = rest

  source_left : dropped ≢ class.Vsource → (es : Elements) → BeginsWithSource es → BeginsWithSource (without dropped es)
  source_left other [] h = h
  source_left other (e ∷ es) h = by (is_of_other dropped e) refl
    where
      by : (b : Bool) → is_of_other dropped e ≡ b → BeginsWithSource (cond b (e ∷ without dropped es) (without dropped es))
      by true t = h
      by false t = absurd (other (sym (gone e t) ∙ ap (λ (n : ElementName). n.class) h))

  pub well_formed_left : dropped ≢ class.Vsource → (es : Elements) → OthersNameNone dropped es → AreWellFormed es
      → AreWellFormed (without dropped es)
  well_formed_left other es none h = record {
    distinct = IsDistinct-keys_filter same_element (is_of_other dropped) es h.distinct;
    entries = All-filter (is_of_other dropped) IsEntry es h.entries;
    source = source_left other es h.source;
    named = all_left es es none h.named;
  }

  pub in_range_left : (es : Elements) → AllInRange es → AllInRange (without dropped es)
  in_range_left es h = All-filter (is_of_other dropped) (λ (e : ElementName × Element). ElementInRange e.1) es h
