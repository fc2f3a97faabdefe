-- The elements that elements name stay in the circuit.
use Rattle.std.proofs.Common.{ℕ, Bool, true, false, if◌then◌else◌, List, [], ◌∷◌, Option, Some, None, IsSome, refl}
use Rattle.std.specs.Map.{lookup}
use Rattle.std.proofs.lemmas.List.Elements.{All-weaker}
use Rattle.indexmap.specs.IndexMap.{insert_entry}
use Rattle.dss_model.specs.declared.element.Element.{Element}
use Rattle.dss_model.specs.declared.element.Element.TheVariants as the
use Rattle.dss_model.specs.declared.names.Class.{Class}
use Rattle.dss_model.specs.declared.names.Class.TheVariants as class
use Rattle.dss_model.specs.declared.names.ElementName.{ElementName}
use Rattle.dss_model.specs.SameElement.{same_element}
use Rattle.dss_circuit.specs.Circuit.{Elements}
use Rattle.dss_circuit.specs.WellFormed.{AllNamesAreThere, IsThere, NamesAreThere}
use Rattle.dss_circuit.proofs.Entries.{OfValue, of_inserted}

-- ---- elements stay

first_there : (b : Bool) (x y : Element) (o p : Option Element) → (IsSome o → IsSome p)
    → IsSome (if b then Some x else o) → IsSome (if b then Some y else p)
first_there true x y o p k h = refl
first_there false x y o p k h = k h

-- an element that is there is there after an insertion
stays : (k : ElementName) (v : Element) (es : Elements) (name : ElementName) → IsSome (lookup (same_element name) es)
    → IsSome (lookup (same_element name) (insert_entry same_element es k v))
stays k v [] name h = cc h
stays k v (e ∷ es) name h = by (same_element k e.0) (stays k v es name)
  where
    by : (b : Bool)
        → (IsSome (lookup (same_element name) es) → IsSome (lookup (same_element name) (insert_entry same_element es k v)))
        → IsSome (lookup (same_element name) (if b then (e.0, v) ∷ es else e ∷ insert_entry same_element es k v))
    by true rest = first_there (same_element name e.0) e.1 v (lookup (same_element name) es) (lookup (same_element name) es) (λ r. r) h
    by false rest =
        first_there (same_element name e.0) e.1 e.1 (lookup (same_element name) es)
        (lookup (same_element name) (insert_entry same_element es k v)) rest h

-- what is there in one circuit is there in another that has its elements
module _ (es fs : Elements)
    (has : (name : ElementName) → IsSome (lookup (same_element name) es) → IsSome (lookup (same_element name) fs)) where
  name_stays : (class : Class) (given : Option (List ℕ)) → IsThere es class given → IsThere fs class given
  name_stays class None h = h
  name_stays class (Some name) h = has (record { class = class; name = name }) h

  names_stay : (e : Element) → NamesAreThere es e → NamesAreThere fs e
  names_stay (the.Line line) h = name_stays class.Linecode line.linecode h
  names_stay (the.Load load) h = name_stays class.Loadshape load.daily h
  names_stay (the.RegControl control) h = name_stays class.Transformer control.transformer h
  names_stay (the.CapControl control) h = (name_stays class.Line control.element h.0, name_stays class.Capacitor control.capacitor h.1)
  names_stay (the.Vsource source) h = tt
  names_stay (the.Linecode code) h = tt
  names_stay (the.Transformer xfmr) h = tt
  names_stay (the.Capacitor bank) h = tt
  names_stay (the.Loadshape shape) h = tt

pub names_kept_by_all : (k : ElementName) (v : Element) (es : Elements) → NamesAreThere es v → AllNamesAreThere es
    → AllNamesAreThere (insert_entry same_element es k v)
names_kept_by_all k v es own h =
    let fs = insert_entry same_element es k v in
    let stay = names_stay es fs (stays k v es) in
    of_inserted (NamesAreThere fs) same_element es k v
    (All-weaker (OfValue (NamesAreThere es)) (OfValue (NamesAreThere fs)) (λ entry r. stay entry.1 r) es h)
    (stay v own)
