-- What the elements of every circuit are stays so.
use Rattle.std.proofs.Common.{◌≡◌, Bool, true, false, if◌then◌else◌, [], ◌∷◌, map, All, Some, IfSome, refl, sym, ap, subst, ◌∙◌}
use Rattle.std.specs.List.{IsDistinct, AllByRecursion}
use Rattle.std.specs.Cmp.{both_ways}
use Rattle.std.specs.Map.{lookup}
use Rattle.std.proofs.lemmas.List.Elements.{All-nil, All-cons, All-head, All-tail}
use Rattle.indexmap.specs.IndexMap.{insert_entry}
use Rattle.dss_model.specs.declared.element.Element.{Element}
use Rattle.dss_model.specs.declared.names.ElementName.{ElementName}
use Rattle.dss_model.specs.Element.{class_of}
use Rattle.dss_model.specs.SameElement.{same_element}
use Rattle.dss_model.proofs.CallerLemmas.{equal}
use Rattle.dss_circuit.specs.Circuit.{Elements, has_circuit, source_name}
use Rattle.dss_circuit.specs.WellFormed.{AreWellFormed, BeginsWithSource, IsEntry, IsKey, NamesAreThere}
use Rattle.dss_circuit.proofs.Named.{names_kept_by_all}

-- ---- elements

-- the same either way
pub turned : (a b : ElementName) → same_element a b ≡ same_element b a
turned a b = both_ways (same_element a b) (same_element b a) (λ h. (equal b a).1 (sym ((equal a b).0 h))) (λ h. (equal a b).1 (sym ((equal b a).0 h)))

abbrev pub name_of : ElementName × Element → ElementName
name_of entry = entry.0

-- an element that is there has its name's class
pub found_class : (name : ElementName) (es : Elements) → All IsEntry es
    → IfSome (lookup (same_element name) es) (λ e. name.class ≡ class_of e)
found_class name [] h = tt
found_class name (e ∷ es) h = by (same_element name e.0) refl (found_class name es (All-tail IsEntry e es h))
  where
    by : (b : Bool) → same_element name e.0 ≡ b → IfSome (lookup (same_element name) es) (λ x. name.class ≡ class_of x)
        → IfSome (if b then Some e.1 else lookup (same_element name) es) (λ x. name.class ≡ class_of x)
    by true t rest = ap (λ (n : ElementName). n.class) ((equal name e.0).0 t) ∙ (All-head IsEntry e es h).class
    by false t rest = rest

-- and then there is a circuit
pub found_begun : (name : ElementName) (es : Elements) (e : Element) → lookup (same_element name) es ≡ Some e
    → has_circuit es ≡ true
found_begun name [] e h = cc h
found_begun name (x ∷ es) e h = refl

module _ (k : ElementName) (v : Element) where
  entries_kept : (es : Elements) → IsEntry (k, v) → All IsEntry es → All IsEntry (insert_entry same_element es k v)
  entries_kept [] own h = All-cons IsEntry (k, v) [] own (All-nil IsEntry)
  entries_kept (e ∷ es) own h = by (same_element k e.0) refl (entries_kept es own (All-tail IsEntry e es h))
    where
      by : (b : Bool) → same_element k e.0 ≡ b → All IsEntry (insert_entry same_element es k v)
          → All IsEntry (if b then (e.0, v) ∷ es else e ∷ insert_entry same_element es k v)
      by true t rest = All-cons IsEntry (e.0, v) es (subst (λ n. IsEntry (n, v)) ((equal k e.0).0 t) own) (All-tail IsEntry e es h)
      by false t rest = All-cons IsEntry e (insert_entry same_element es k v) (All-head IsEntry e es h) rest

  -- what holds of the names holds of them with one more
  names_kept : (P : ElementName → Type 0) (es : Elements) → P k → AllByRecursion P (map name_of es)
      → AllByRecursion P (map name_of (insert_entry same_element es k v))
  names_kept P [] own h = (own, tt)
  names_kept P (e ∷ es) own h = by (same_element k e.0) (names_kept P es own h.1)
    where
      by : (b : Bool) → AllByRecursion P (map name_of (insert_entry same_element es k v))
          → AllByRecursion P (map name_of (if b then (e.0, v) ∷ es else e ∷ insert_entry same_element es k v))
      by true rest = h
      by false rest = (h.0, rest)

  distinct_kept : (es : Elements) → IsDistinct same_element (map name_of es)
      → IsDistinct same_element (map name_of (insert_entry same_element es k v))
  unfolding IsDistinct
  distinct_kept [] h = (tt, tt)
  distinct_kept (e ∷ es) h = by (same_element k e.0) refl (distinct_kept es h.1)
    where
      by : (b : Bool) → same_element k e.0 ≡ b
          → IsDistinct same_element (map name_of (insert_entry same_element es k v))
          → IsDistinct same_element (map name_of (if b then (e.0, v) ∷ es else e ∷ insert_entry same_element es k v))
      by true t rest = h
      by false t rest = (names_kept (λ y. same_element e.0 y ≡ false) es (turned e.0 k ∙ t) h.0, rest)

  source_kept : (es : Elements) → (has_circuit es ≡ false → k ≡ source_name) → BeginsWithSource es
      → BeginsWithSource (insert_entry same_element es k v)
  source_kept [] own h = own refl
  source_kept (e ∷ es) own h = by (same_element k e.0)
    where
      by : (b : Bool) → BeginsWithSource (if b then (e.0, v) ∷ es else e ∷ insert_entry same_element es k v)
      by true = h
      by false = h

  -- an element takes the place of the one of its name, or stands last
  pub well_formed_kept : (es : Elements) → IsKey k → k.class ≡ class_of v → (has_circuit es ≡ false → k ≡ source_name)
      → NamesAreThere es v → AreWellFormed es
      → AreWellFormed (insert_entry same_element es k v)
  well_formed_kept es key class source own h = record {
    distinct = distinct_kept es h.distinct;
    entries = entries_kept es (record { key = key; class = class }) h.entries;
    source = source_kept es source h.source;
    named = names_kept_by_all k v es own h.named;
  }

pub none_well_formed : AreWellFormed []
unfolding IsDistinct
none_well_formed = record { distinct = tt; entries = All-nil IsEntry; source = tt; named = All-nil _ }
