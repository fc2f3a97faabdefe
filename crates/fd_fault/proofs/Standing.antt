-- A node that is among those of a circuit that passed the tests of Solve is fed.
use Rattle.std.proofs.Common.{◌≡◌, ◌∙◌, ◌+◌, suc, Bool, true, false, ◌||◌, ◌==◌, cond, not, if◌then◌else◌, List, [], ◌∷◌, ◌++◌, length, All, refl, sym, ap, subst, arith}
use Rattle.std.specs.List.{flat_map, list_any, position_or_len}
use Rattle.std.specs.Cmp.{both_ways}
use Rattle.std.specs.Cmp.Lexicographic.{bytes_decides}
use Rattle.std.proofs.lemmas.Bool.{and_parts, eq-eqb, eqb-true, false≢true, ne_eqb}
use Rattle.std.proofs.lemmas.List.Elements.{All-nil, All-cons, All-head, All-tail}
use Rattle.dss_ready.specs.dss_lexer.Texts.{text_eq}
use Rattle.dss_ready.specs.dss_layout.declared.nodes.NodeName.{NodeName}
use Rattle.dss_ready.specs.dss_layout.Layout.{Elements, nodes_of}
use Rattle.dss_ready.specs.dss_layout.Nodes.{new_nodes, same_node}
use Rattle.dss_ready.specs.dss_layout.Terminals.{mentions}

-- ---- lists

pub joined : {X : Type 0} (P : X → Type 0) (xs ys : List X) → All P xs → All P ys → All P (xs ++ ys)
joined P [] ys h k = k
joined P (x ∷ xs) ys h k = All-cons P x (xs ++ ys) (All-head P x xs h) (joined P xs ys (All-tail P x xs h) k)

all_of_parts : {X Y : Type 0} (f : X → List Y) (P : Y → Type 0) (xs : List X) → All (λ x. All P (f x)) xs
    → All P (flat_map f xs)
all_of_parts f P [] h = All-nil P
all_of_parts {X} f P (x ∷ xs) h =
    let Q : X → Type 0 = λ y. All P (f y) in
    joined P (f x) (flat_map f xs) (All-head Q x xs h) (all_of_parts f P xs (All-tail Q x xs h))

all_new : (P : NodeName → Type 0) (before ms : List NodeName) → All P ms → All P (new_nodes before ms)
all_new P before [] h = All-nil P
all_new P before (m ∷ ms) h =
    by (list_any (same_node m) before) (all_new P before ms (All-tail P m ms h)) (all_new P (before ++ m ∷ []) ms (All-tail P m ms h))
  where
    by : (b : Bool) → All P (new_nodes before ms) → All P (new_nodes (before ++ m ∷ []) ms)
        → All P (if b then new_nodes before ms else m ∷ new_nodes (before ++ m ∷ []) ms)
    by true here later = here
    by false here later = All-cons P m (new_nodes (before ++ m ∷ []) ms) (All-head P m ms h) later

-- ---- nodes by name

pub one_node : (a b : NodeName) → same_node a b ≡ true → a ≡ b
one_node a b h =
    let parts = and_parts (text_eq a.bus b.bus) (a.number == b.number) h in
    let bus = (bytes_decides a.bus b.bus).0 parts.0 in
    let number = eqb-true a.number b.number parts.1 in
    λ i. record { bus = bus i; number = number i }

-- what is so of all is so of one that is among them
pub of_among : (P : NodeName → Type 0) (nodes : List NodeName) (m : NodeName) → All P nodes → list_any (same_node m) nodes ≡ true
    → P m
of_among P [] m h t = absurd (false≢true t)
of_among P (n ∷ nodes) m h t = by (same_node m n) refl (of_among P nodes m (All-tail P n nodes h))
  where
    by : (b : Bool) → same_node m n ≡ b → (list_any (same_node m) nodes ≡ true → P m) → P m
    by true s rest = subst P (sym (one_node m n s)) (All-head P n nodes h)
    by false s rest = rest (ap (λ (b : Bool). b || list_any (same_node m) nodes) (sym s) ∙ t)

-- what is so of all that elements mention is so of the circuit's nodes
pub of_nodes : (P : NodeName → Type 0) (es : Elements) → All (λ e. All P (mentions e.1)) es → All P (nodes_of es)
of_nodes P es h = all_new P [] (flat_map (λ e. mentions e.1) es) (all_of_parts (λ e. mentions e.1) P es h)

-- ---- by place

-- the first that passes has no place exactly where none passes
pub no_place : {X : Type 0} (p : X → Bool) (xs : List X) → (position_or_len p xs == length xs) ≡ not (list_any p xs)
no_place p [] = refl
no_place p (x ∷ xs) = by (p x) (no_place p xs)
  where
    by : (b : Bool) → (position_or_len p xs == length xs) ≡ not (list_any p xs)
        → (cond (not b) (1 + position_or_len p xs) 0 == length (x ∷ xs)) ≡ not (b || list_any p xs)
    by true rest = ne_eqb 0 (suc (length xs)) (λ e. omega arith)
    by false rest =
        let p_place = position_or_len p xs in
        both_ways ((1 + p_place) == suc (length xs)) (p_place == length xs)
        (λ h. eq-eqb p_place (length xs) (let e : 1 + p_place ≡ suc (length xs) = eqb-true (1 + p_place) (suc (length xs)) h in omega arith))
        (λ h. eq-eqb (1 + p_place) (suc (length xs)) (let e : p_place ≡ length xs = eqb-true p_place (length xs) h in omega arith))
        ∙ rest
