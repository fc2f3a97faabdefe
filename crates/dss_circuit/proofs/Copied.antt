-- Elements that are put one by one in their order stand in it.
use Rattle.std.proofs.Common.{◌≡◌, ◌∙◌, Bool, false, if◌then◌else◌, [], ◌∷◌, ◌++◌, map, refl, sym, ap, subst, append_assoc}
use Rattle.std.specs.List.{IsDistinct, AllByRecursion}
use Rattle.indexmap.specs.IndexMap.{insert_entry}
use Rattle.dss_model.specs.declared.element.Element.{Element}
use Rattle.dss_model.specs.declared.names.ElementName.{ElementName}
use Rattle.dss_model.specs.SameElement.{same_element}
use Rattle.dss_circuit.specs.Circuit.{Elements}
use Rattle.dss_circuit.proofs.WellFormed.{name_of, turned}

-- what holds of all names holds of one in their midst
at_seam : (P : ElementName → Type 0) (done rest : Elements) (e : ElementName × Element)
    → AllByRecursion P (map name_of (done ++ e ∷ rest)) → P e.0
at_seam P [] rest e h = h.0
at_seam P (d ∷ done) rest e h = at_seam P done rest e h.1

-- one of another name than all before it stands last
put_last : (done rest : Elements) (k : ElementName) (v : Element) → IsDistinct same_element (map name_of (done ++ (k, v) ∷ rest))
    → insert_entry same_element done k v ≡ done ++ (k, v) ∷ []
unfolding IsDistinct
put_last [] rest k v h = refl
put_last (d ∷ done) rest k v h =
    ap (λ (b : Bool). if b then (d.0, v) ∷ done else d ∷ insert_entry same_element done k v)
    (turned k d.0 ∙ at_seam (λ y. same_element d.0 y ≡ false) done rest (k, v) h.0)
    ∙ ap (λ (es : Elements). d ∷ es) (put_last done rest k v h.1)

-- those so far and those that are left stay all
pub copied_more : (done new rest left all : Elements) (k : ElementName) (v : Element)
    → IsDistinct same_element (map name_of all) → done ++ left ≡ all → left ≡ (k, v) ∷ rest
    → new ≡ insert_entry same_element done k v → new ++ rest ≡ all
copied_more done new rest left all k v distinct so_far next put =
    let whole : done ++ (k, v) ∷ rest ≡ all = ap (λ (es : Elements). done ++ es) (sym next) ∙ so_far in
    let last =
    put_last done rest k v
    (subst (λ (es : Elements). IsDistinct same_element (map name_of es)) (sym whole) distinct) in
    ap (λ (es : Elements). es ++ rest) (put ∙ last) ∙ append_assoc done ((k, v) ∷ []) rest ∙ whole
