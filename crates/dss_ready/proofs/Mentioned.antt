-- Every node that an element mentions is among the nodes, and is found by its number.
use Rattle.std.proofs.Common.{◌≡◌, ℕ, suc, ◌+◌, ◌==◌, ◌≤◌, Bool, true, false, not, ◌&&◌, cond, if◌then◌else◌, List, [], ◌∷◌, ◌++◌, length, filter, slice_get, Some, ◌⊎◌, inl, inr, refl, sym, ap, subst, ◌∙◌, append_assoc, arith}
use Rattle.std.specs.List.{flat_map, list_any, zip}
use Rattle.std.specs.Cmp.Lexicographic.{same_text, nat_list_eq_equiv}
use Rattle.std.proofs.lemmas.Bool.{eqb-true, eq-eqb}
use Rattle.std.proofs.lemmas.List.Sums.{prefix_len-le-length}
use Rattle.dss_circuit.specs.dss_lexer.Texts.{text_eq}
use Rattle.dss_circuit.specs.dss_model.declared.element.Element.{Element}
use Rattle.dss_circuit.specs.dss_model.declared.element.Element.TheVariants as the
use Rattle.dss_circuit.specs.dss_model.declared.names.ElementName.{ElementName}
use Rattle.dss_layout.specs.declared.nodes.NodeName.{NodeName}
use Rattle.dss_layout.specs.declared.terminals.Terminals.{Terminals}
use Rattle.dss_layout.specs.Nodes.{same_node, is_node, new_nodes, number_in}
use Rattle.dss_layout.specs.Terminals.{mentions, terminals_of}
use Rattle.dss_layout.specs.Layout.{Elements, nodes_of}
use Rattle.dss_ready.specs.Feeding.{source_nodes, tied_nodes, phase_ends}
use Rattle.dss_ready.proofs.Membership.{In, in_append_left, in_append_right, in_map_from, in_flat_map, in_flat_map_from, in_filter, in_filter_from, in_zip_from, in_from_list_any}

both_true : (x y : Bool) → (x && y) ≡ true → (x ≡ true) × (y ≡ true)
both_true true y h = (refl, h)
both_true false y h = cc

pub same_node-true : (a b : NodeName) → same_node a b ≡ true → a ≡ b
same_node-true a b h =
    let parts = both_true (text_eq a.bus b.bus) (a.number == b.number) h in
    (λ i. record { bus = same_text a.bus b.bus (sym parts.0) i; number = eqb-true a.number b.number parts.1 i })

pub same_node_refl : (a : NodeName) → same_node a a ≡ true
same_node_refl a = (λ i. nat_list_eq_equiv.refl a.bus i && eq-eqb a.number a.number refl i)

pub new_nodes-has : (before ms : List NodeName) (m : NodeName) → In m ms → In m (before ++ new_nodes before ms)
new_nodes-has before [] m h = absurd h
new_nodes-has before (x ∷ ms) m h = by (list_any (same_node x) before) refl h (new_nodes-has before ms m) (new_nodes-has (before ++ x ∷ []) ms m)
  where
    rest : Bool → List NodeName
    rest b = if b then new_nodes before ms else x ∷ new_nodes (before ++ x ∷ []) ms

    known : list_any (same_node x) before ≡ true → x ≡ m → In m before
    known t e = let p = in_from_list_any (same_node x) before t in subst (λ y. In y before) (sym (same_node-true x p.element p.passes) ∙ e) p.is_in

    by : (b : Bool) → list_any (same_node x) before ≡ b → (x ≡ m) ⊎ In m ms
        → (In m ms → In m (before ++ new_nodes before ms))
        → (In m ms → In m ((before ++ x ∷ []) ++ new_nodes (before ++ x ∷ []) ms))
        → In m (before ++ (if b then new_nodes before ms else x ∷ new_nodes (before ++ x ∷ []) ms))
    by true t (inl e) here later = in_append_left before (new_nodes before ms) m (known t e)
    by true t (inr r) here later = here r
    by false t (inl e) here later = in_append_right before (x ∷ new_nodes (before ++ x ∷ []) ms) m (inl e)
    by false t (inr r) here later = subst (In m) (append_assoc before (x ∷ []) (new_nodes (before ++ x ∷ []) ms)) (later r)

pub number_in-le : (nodes : List NodeName) (m : NodeName) → number_in nodes m ≤ length nodes
number_in-le nodes m = prefix_len-le-length _ nodes

pub slice_get-number_in : (nodes : List NodeName) (m : NodeName) → In m nodes
    → slice_get nodes (number_in nodes m) ≡ Some m
slice_get-number_in [] m h = absurd h
slice_get-number_in (x ∷ xs) m h = by (same_node m x) refl h (slice_get-number_in xs m)
  where
    later : (k : ℕ) → slice_get (x ∷ xs) (1 + k) ≡ slice_get xs k
    later k = let e : 1 + k ≡ suc k = omega arith in ap (slice_get (x ∷ xs)) e

    by : (b : Bool) → same_node m x ≡ b → (x ≡ m) ⊎ In m xs → (In m xs → slice_get xs (number_in xs m) ≡ Some m)
        → slice_get (x ∷ xs) (cond (not b) (1 + number_in xs m) 0) ≡ Some m
    by true t i found = ap Some (sym (same_node-true m x t))
    by false t (inl e) found = let same : same_node m x ≡ true = ap (same_node m) e ∙ same_node_refl m in cc
    by false t (inr i) found = later (number_in xs m) ∙ found i

pub source-mentions : (e : Element) (m : NodeName) → In m (source_nodes e) → In m (mentions e)
source-mentions (the.Vsource v) m h = h
source-mentions (the.Linecode v) m h = absurd h
source-mentions (the.Line v) m h = absurd h
source-mentions (the.Transformer v) m h = absurd h
source-mentions (the.Capacitor v) m h = absurd h
source-mentions (the.Load v) m h = absurd h
source-mentions (the.RegControl v) m h = absurd h
source-mentions (the.CapControl v) m h = absurd h
source-mentions (the.Loadshape v) m h = absurd h

-- a node at one end of a phase is a node of the terminals
phase_ends-mentions : (t : Terminals) (group : List NodeName) (m : NodeName) → In group (phase_ends t) → In m group
    → In m (filter is_node (t.first ++ t.second))
phase_ends-mentions t group m h i =
    let made = in_map_from (λ (p : NodeName × NodeName). filter is_node (p.0 ∷ p.1 ∷ [])) (zip t.first t.second) group h in
    let ends = in_zip_from t.first t.second made.source made.is_in in
    let passed = in_filter_from is_node (made.source.0 ∷ made.source.1 ∷ []) m (subst (In m) (sym made.is_made) i) in
    in_filter is_node (t.first ++ t.second) m (by made.source ends.0 ends.1 passed.0) passed.1
  where
    by : (p : NodeName × NodeName) → In p.0 t.first → In p.1 t.second → In m (p.0 ∷ p.1 ∷ [])
        → In m (t.first ++ t.second)
    by p a b (inl e) = in_append_left t.first t.second m (subst (λ x. In x t.first) e a)
    by p a b (inr (inl e)) = in_append_right t.first t.second m (subst (λ x. In x t.second) e b)
    by p a b (inr (inr f)) = absurd f

pub tied-mentions : (e : Element) (group : List NodeName) (m : NodeName) → In group (tied_nodes e) → In m group
    → In m (mentions e)
tied-mentions (the.Line l) group m h i = phase_ends-mentions (terminals_of (the.Line l)) group m h i
tied-mentions (the.Transformer t) group m (inl e) i = subst (In m) (sym e) i
tied-mentions (the.Transformer t) group m (inr f) i = absurd f
tied-mentions (the.Vsource v) group m h i = absurd h
tied-mentions (the.Linecode v) group m h i = absurd h
tied-mentions (the.Capacitor v) group m h i = absurd h
tied-mentions (the.Load v) group m h i = absurd h
tied-mentions (the.RegControl v) group m h i = absurd h
tied-mentions (the.CapControl v) group m h i = absurd h
tied-mentions (the.Loadshape v) group m h i = absurd h

-- a node that an element mentions is found by its number
pub found : (es : Elements) (e : ElementName × Element) (m : NodeName) → In e es → In m (mentions e.1)
    → slice_get (nodes_of es) (number_in (nodes_of es) m) ≡ Some m
found es e m here i = slice_get-number_in (nodes_of es) m (new_nodes-has [] (flat_map (λ x. mentions x.1) es) m (in_flat_map (λ x. mentions x.1) es e m here i))

pub source_found : (es : Elements) (m : NodeName) → In m (flat_map (λ e. source_nodes e.1) es)
    → slice_get (nodes_of es) (number_in (nodes_of es) m) ≡ Some m
source_found es m h =
    let p = in_flat_map_from (λ (e : ElementName × Element). source_nodes e.1) es m h in
    found es p.source m p.is_in (source-mentions p.source.1 m p.part)

pub tied_found : (es : Elements) (group : List NodeName) (m : NodeName) → In group (flat_map (λ e. tied_nodes e.1) es)
    → In m group → slice_get (nodes_of es) (number_in (nodes_of es) m) ≡ Some m
tied_found es group m h i =
    let p = in_flat_map_from (λ (e : ElementName × Element). tied_nodes e.1) es group h in
    found es p.source m p.is_in (tied-mentions p.source.1 group m p.part i)
