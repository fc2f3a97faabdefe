-- Each node that an element mentions is among the nodes of all elements.
use Rattle.std.proofs.Common.{◌≡◌, Bool, true, false, ◌&&◌, ◌||◌, if◌then◌else◌, List, [], ◌∷◌, ◌++◌, All, refl, ap, subst, ◌∙◌, append_assoc}
use Rattle.std.specs.List.{flat_map, list_any}
use Rattle.std.specs.Cmp.Lexicographic.{nat_list_eq_equiv}
use Rattle.std.proofs.lemmas.Bool.{eq-eqb}
use Rattle.std.proofs.lemmas.List.Elements.{All-nil, All-cons, All-head, All-tail}
use Rattle.std.proofs.lemmas.List.Folds.{list_any-append}
use Rattle.dss_model.specs.declared.element.Element.{Element}
use Rattle.dss_model.specs.declared.names.ElementName.{ElementName}
use Rattle.dss_layout.specs.declared.nodes.NodeName.{NodeName}
use Rattle.dss_layout.specs.Among.{IsAmong}
use Rattle.dss_layout.specs.Nodes.{same_node, new_nodes}
use Rattle.dss_layout.specs.Terminals.{mentions}
use Rattle.dss_layout.specs.Layout.{Elements, nodes_of}

-- ---- lists

pub both_parts : {X : Type 0} (P : X → Type 0) (xs ys : List X) → All P (xs ++ ys) → All P xs × All P ys
both_parts P [] ys h = (All-nil P, h)
both_parts P (x ∷ xs) ys h =
    let parts = both_parts P xs ys (All-tail P x (xs ++ ys) h) in
    (All-cons P x xs (All-head P x (xs ++ ys) h) parts.0, parts.1)

each_part : {X Y : Type 0} (f : X → List Y) (P : Y → Type 0) (xs : List X) → All P (flat_map f xs)
    → All (λ x. All P (f x)) xs
each_part f P [] h = All-nil (λ x. All P (f x))
each_part f P (x ∷ xs) h =
    let parts = both_parts P (f x) (flat_map f xs) h in
    All-cons (λ y. All P (f y)) x xs parts.0 (each_part f P xs parts.1)

-- ---- nodes by name

itself : (m : NodeName) → same_node m m ≡ true
itself m = (λ i. nat_list_eq_equiv.refl m.bus i && eq-eqb m.number m.number refl i)

among_before : (xs ys : List NodeName) (m : NodeName) → IsAmong xs m → IsAmong (xs ++ ys) m
among_before xs ys m h = list_any-append (same_node m) xs ys ∙ ap (λ b. b || list_any (same_node m) ys) h

or_yes : (b c : Bool) → (b || (true || c)) ≡ true
or_yes true c = refl
or_yes false c = refl

among_here : (xs ys : List NodeName) (m : NodeName) → IsAmong (xs ++ m ∷ ys) m
among_here xs ys m =
    list_any-append (same_node m) xs (m ∷ ys)
    ∙ ap (λ b. list_any (same_node m) xs || (b || list_any (same_node m) ys)) (itself m)
    ∙ or_yes (list_any (same_node m) xs) (list_any (same_node m) ys)

noted : (before ms : List NodeName) → All (IsAmong (before ++ new_nodes before ms)) ms
noted before [] = All-nil (IsAmong (before ++ []))
noted before (x ∷ ms) = by (list_any (same_node x) before) refl (noted before ms) (noted (before ++ x ∷ []) ms)
  where
    by : (b : Bool) → list_any (same_node x) before ≡ b → All (IsAmong (before ++ new_nodes before ms)) ms
        → All (IsAmong ((before ++ x ∷ []) ++ new_nodes (before ++ x ∷ []) ms)) ms
        → All (IsAmong (before ++ (if b then new_nodes before ms else x ∷ new_nodes (before ++ x ∷ []) ms))) (x ∷ ms)
    by true t here later = All-cons (IsAmong (before ++ new_nodes before ms)) x ms (among_before before (new_nodes before ms) x t) here
    by false t here later = All-cons (IsAmong (before ++ x ∷ new_nodes (before ++ x ∷ []) ms)) x ms (among_here before (new_nodes (before ++ x ∷ []) ms) x)
        (subst (λ l. All (IsAmong l) ms) (append_assoc before (x ∷ []) (new_nodes (before ++ x ∷ []) ms)) later)

-- the nodes that each element mentions are among all nodes
pub mentions_among : (elements : Elements) → All (λ e. All (IsAmong (nodes_of elements)) (mentions e.1)) elements
mentions_among elements =
    each_part (λ (e : ElementName × Element). mentions e.1) (IsAmong (nodes_of elements)) elements
    (noted [] (flat_map (λ (e : ElementName × Element). mentions e.1) elements))
