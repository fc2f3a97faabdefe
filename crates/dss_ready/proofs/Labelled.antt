-- A node has the label of the sources exactly where it is fed.
use Rattle.std.proofs.Common.{◌≡◌, ℕ, ◌+◌, ◌==◌, ◌<◌, Bool, true, false, not, List, [], ◌∷◌, length, take, get_or, slice_get, All, Option, None, Some, ◌⊎◌, inl, inr, refl, sym, ap, subst, ◌∙◌, arith}
use Rattle.std.specs.List.{flat_map, list_any}
use Rattle.std.proofs.lemmas.Option.{slice_get_past, slice_get_within, get_or_from_slice_get}
use Rattle.std.proofs.lemmas.List.FromFn.{length-range_with_len, get_or-range_with_len}
use Rattle.std.proofs.lemmas.List.Elements.{All-more}
use Rattle.std.proofs.lemmas.Bool.{eqb-true, eq-eqb}
use Rattle.dss_circuit.specs.dss_model.declared.element.Element.{Element}
use Rattle.dss_circuit.specs.dss_model.declared.names.ElementName.{ElementName}
use Rattle.dss_layout.specs.declared.nodes.NodeName.{NodeName}
use Rattle.dss_layout.specs.Nodes.{number_in}
use Rattle.dss_layout.specs.Terminals.{mentions}
use Rattle.dss_layout.specs.Layout.{Elements, nodes_of}
use Rattle.dss_ready.specs.Feeding.{source_nodes, tied_nodes, Fed, IsFed, IsIsolated, IsFirstIsolated}
use Rattle.dss_ready.specs.Feeding.Fed.{by_source, by_tie}
use Rattle.dss_ready.specs.Labels.{pairs_with, group_pairs, element_pairs, all_pairs, own_labels, labels_of, mentions_apart}
use Rattle.dss_ready.proofs.Membership.{In, IsPart, in_from_contains, contains_from_in, in_append_left, in_append_right, in_append_cases, in_map, in_map_from, in_flat_map, in_flat_map_from, in_from_list_any, none_from_list_any, in_index, in_from_get}
use Rattle.dss_ready.proofs.Mentioned.{number_in-le, found, source_found, tied_found}
use Rattle.dss_ready.proofs.Together.{AreBelow, Relation, Implies, label, pair_all, implied_all, length-joined_all}

abbrev sources : Elements → List NodeName
sources es = flat_map (λ e. source_nodes e.1) es

abbrev ties : Elements → List (List NodeName)
ties es = flat_map (λ e. tied_nodes e.1) es

-- the pair of what the sources feed and a source's node
record IsSourcePair (nodes : List NodeName) (es : Elements) (p : ℕ × ℕ) : Type 0 where
  node : NodeName
  is_source : In node (sources es)
  is : (length nodes, number_in nodes node) ≡ p

-- a pair of two nodes of a group
record IsTiePair (nodes : List NodeName) (es : Elements) (p : ℕ × ℕ) : Type 0 where
  group : List NodeName
  from : NodeName
  to : NodeName
  is_tied : In group (ties es)
  has_from : In from group
  has_to : In to group
  is : (number_in nodes from, number_in nodes to) ≡ p

group_case : (nodes : List NodeName) (es : Elements) (p : ℕ × ℕ) (group : List NodeName) → In group (ties es)
    → In p (group_pairs nodes group) → IsTiePair nodes es p
group_case nodes es p [] tied h = absurd h
group_case nodes es p (m ∷ ms) tied h =
    let made = in_map_from (λ (x : NodeName). (number_in nodes m, number_in nodes x)) ms p h in
    record { group = m ∷ ms; from = m; to = made.source; is_tied = tied; has_from = inl refl; has_to = inr made.is_in; is = made.is_made }

pair_cases : (nodes : List NodeName) (es : Elements) (p : ℕ × ℕ) → In p (all_pairs nodes es)
    → IsSourcePair nodes es p ⊎ IsTiePair nodes es p
pair_cases nodes es p h = by (in_append_cases (pairs_with nodes (length nodes) (source_nodes e.1)) (flat_map (group_pairs nodes) (tied_nodes e.1)) p whole.part)
  where
    whole : IsPart (λ (x : ElementName × Element). element_pairs nodes x.1) es p
    whole = in_flat_map_from (λ (x : ElementName × Element). element_pairs nodes x.1) es p h

    e : ElementName × Element
    e = whole.source

    by : In p (pairs_with nodes (length nodes) (source_nodes e.1)) ⊎ In p (flat_map (group_pairs nodes) (tied_nodes e.1))
        → IsSourcePair nodes es p ⊎ IsTiePair nodes es p
    by (inl i) =
        let made = in_map_from (λ (x : NodeName). (length nodes, number_in nodes x)) (source_nodes e.1) p i in
        inl (record {
          node = made.source;
          is_source =
              in_flat_map (λ (x : ElementName × Element). source_nodes x.1) es e made.source whole.is_in made.is_in;
          is = made.is_made;
        })
    by (inr i) =
        let part = in_flat_map_from (group_pairs nodes) (tied_nodes e.1) p i in
        inr (group_case nodes es p part.source (in_flat_map (λ (x : ElementName × Element). tied_nodes x.1) es e part.source whole.is_in part.is_in) part.part)

-- every pair is among the places
all_below : (nodes : List NodeName) (es : Elements) → AreBelow (length nodes + 1) (all_pairs nodes es)
all_below nodes es p h = by (pair_cases nodes es p h)
  where
    number : (m : NodeName) → number_in nodes m < length nodes + 1
    number m = let l = number_in-le nodes m in omega (arith, l)

    by : IsSourcePair nodes es p ⊎ IsTiePair nodes es p → (p.0 < length nodes + 1) × (p.1 < length nodes + 1)
    by (inl s) = subst (λ (q : ℕ × ℕ). (q.0 < length nodes + 1) × (q.1 < length nodes + 1)) s.is (omega arith, number s.node)
    by (inr t) = subst (λ (q : ℕ × ℕ). (q.0 < length nodes + 1) × (q.1 < length nodes + 1)) t.is (number t.from, number t.to)

-- the node is fed, if there is one; what stands after the nodes is fed
abbrev FedIf : Elements → Option NodeName → Type 0
FedIf es None = Unit {0}
FedIf es (Some m) = Fed es m

abbrev fed_at : Elements → ℕ → Type 0
fed_at es k = FedIf es (slice_get (nodes_of es) k)

-- where one of two places is fed, so is the other
record Alike (es : Elements) (a b : ℕ) : Type 0 where
  on : fed_at es a → fed_at es b
  back : fed_at es b → fed_at es a

alike_laws : (es : Elements) → Relation (Alike es)
alike_laws es = record {
  turn = λ a b r. record { on = r.back; back = r.on };
  chain = λ a b c r s. record { on = λ f. s.on (r.on f); back = λ f. r.back (s.back f) };
}

fed_after : (es : Elements) → fed_at es (length (nodes_of es))
fed_after es = subst (FedIf es) (sym (slice_get_past (nodes_of es) (length (nodes_of es)) (omega arith))) tt

to_fed : (es : Elements) (k : ℕ) (m : NodeName) → slice_get (nodes_of es) k ≡ Some m → fed_at es k → Fed es m
to_fed es k m h f = subst (FedIf es) h f

from_fed : (es : Elements) (k : ℕ) (m : NodeName) → slice_get (nodes_of es) k ≡ Some m → Fed es m → fed_at es k
from_fed es k m h f = subst (FedIf es) (sym h) f

pair_alike : (es : Elements) (p : ℕ × ℕ) → In p (all_pairs (nodes_of es) es) → Alike es p.0 p.1
pair_alike es p h = by (pair_cases (nodes_of es) es p h)
  where
    nodes : List NodeName
    nodes = nodes_of es

    by : IsSourcePair (nodes_of es) es p ⊎ IsTiePair (nodes_of es) es p → Alike es p.0 p.1
    by (inl s) =
        let fed : Fed es s.node = by_source s.node (contains_from_in (sources es) s.node s.is_source) in
        let alike : Alike es (length (nodes_of es)) (number_in (nodes_of es) s.node) = record {
          on = λ f. from_fed es (number_in (nodes_of es) s.node) s.node (source_found es s.node s.is_source) fed;
          back = λ f. fed_after es;
        } in
        subst (λ (q : ℕ × ℕ). Alike es q.0 q.1) s.is alike
    by (inr t) =
        let group = contains_from_in (ties es) t.group t.is_tied in
        let from = contains_from_in t.group t.from t.has_from in
        let to = contains_from_in t.group t.to t.has_to in
        let from_place = tied_found es t.group t.from t.is_tied t.has_from in
        let to_place = tied_found es t.group t.to t.is_tied t.has_to in
        let alike : Alike es (number_in (nodes_of es) t.from) (number_in (nodes_of es) t.to) = record {
          on = λ f.
              from_fed es (number_in (nodes_of es) t.to) t.to to_place (by_tie t.group t.from t.to group from to
              (to_fed es (number_in (nodes_of es) t.from) t.from from_place f));
          back = λ f.
              from_fed es (number_in (nodes_of es) t.from) t.from from_place
              (by_tie t.group t.to t.from group to from (to_fed es (number_in (nodes_of es) t.to) t.to to_place f));
        } in
        subst (λ (q : ℕ × ℕ). Alike es q.0 q.1) t.is alike

own_alike : (es : Elements) → Implies (Alike es) (own_labels (nodes_of es))
own_alike es a b ha hb h =
    let n = length (nodes_of es) + 1 in
    let same_length = length-range_with_len 0 n in
    let in_a : a < n = subst (λ k. a < k) same_length ha in
    let in_b : b < n = subst (λ k. b < k) same_length hb in
    let ea = get_or-range_with_len 0 n a 0 in_a in
    let eb = get_or-range_with_len 0 n b 0 in_b in
    let e : a ≡ b = omega (arith, ea, eb, h) in
    subst (Alike es a) e (record { on = λ f. f; back = λ f. f })

below_own : (nodes : List NodeName) (es : Elements) → AreBelow (length (own_labels nodes)) (all_pairs nodes es)
below_own nodes es = subst (λ n. AreBelow n (all_pairs nodes es)) (sym (length-range_with_len 0 (length nodes + 1))) (all_below nodes es)

length-labels_of : (nodes : List NodeName) (es : Elements) → length (labels_of nodes es) ≡ length nodes + 1
length-labels_of nodes es = length-joined_all (own_labels nodes) (all_pairs nodes es) ∙ length-range_with_len 0 (length nodes + 1)

-- the label of a node, and that of the sources
abbrev node_label : Elements → NodeName → ℕ
node_label es m = label (labels_of (nodes_of es) es) (number_in (nodes_of es) m)

abbrev fed_label : Elements → ℕ
fed_label es = label (labels_of (nodes_of es) es) (length (nodes_of es))

-- a node with the sources' label is fed
pub fed_from_label : (es : Elements) (m : NodeName) → slice_get (nodes_of es) (number_in (nodes_of es) m) ≡ Some m
    → node_label es m ≡ fed_label es → Fed es m
fed_from_label es m place h =
    let n = length (nodes_of es) in
    let all = implied_all (Alike es) (alike_laws es) (own_labels (nodes_of es)) (all_pairs (nodes_of es) es)
    (below_own (nodes_of es) es) (pair_alike es) (own_alike es) in
    let size = length-labels_of (nodes_of es) es in
    let low = number_in-le (nodes_of es) m in
    let a : number_in (nodes_of es) m < length (labels_of (nodes_of es) es) = omega (arith, size, low) in
    let b : n < length (labels_of (nodes_of es) es) = omega (arith, size) in
    to_fed es (number_in (nodes_of es) m) m place ((all (number_in (nodes_of es) m) n a b h).back (fed_after es))

-- two nodes of a group have one label
first_label : (es : Elements) (m : NodeName) (ms : List NodeName) (x : NodeName) → In (m ∷ ms) (ties es) → In x (m ∷ ms)
    → node_label es m ≡ node_label es x
first_label es m ms x tied (inl e) = ap (node_label es) e
first_label es m ms x tied (inr i) =
    let nodes = nodes_of es in
    let p = in_flat_map_from (λ (e : ElementName × Element). tied_nodes e.1) es (m ∷ ms) tied in
    let pair = in_map (λ (y : NodeName). (number_in nodes m, number_in nodes y)) ms x i in
    let of_group = in_flat_map (group_pairs nodes) (tied_nodes p.source.1) (m ∷ ms) (number_in nodes m, number_in nodes x) p.part pair in
    let of_element = in_append_right (pairs_with nodes (length nodes) (source_nodes p.source.1))
    (flat_map (group_pairs nodes) (tied_nodes p.source.1)) (number_in nodes m, number_in nodes x) of_group in
    let of_all = in_flat_map (λ (e : ElementName × Element). element_pairs nodes e.1) es p.source (number_in nodes m, number_in nodes x) p.is_in of_element in
    pair_all (own_labels nodes) (all_pairs nodes es) (number_in nodes m, number_in nodes x) (below_own nodes es) of_all

group_label : (es : Elements) (group : List NodeName) (x y : NodeName) → In group (ties es) → In x group → In y group
    → node_label es x ≡ node_label es y
group_label es [] x y tied hx hy = absurd hx
group_label es (m ∷ ms) x y tied hx hy = sym (first_label es m ms x tied hx) ∙ first_label es m ms y tied hy

source_label : (es : Elements) (m : NodeName) → In m (sources es) → node_label es m ≡ fed_label es
source_label es m h =
    let nodes = nodes_of es in
    let p = in_flat_map_from (λ (e : ElementName × Element). source_nodes e.1) es m h in
    let pair = in_map (λ (y : NodeName). (length nodes, number_in nodes y)) (source_nodes p.source.1) m p.part in
    let of_element = in_append_left (pairs_with nodes (length nodes) (source_nodes p.source.1))
    (flat_map (group_pairs nodes) (tied_nodes p.source.1)) (length nodes, number_in nodes m) pair in
    let of_all = in_flat_map (λ (e : ElementName × Element). element_pairs nodes e.1) es p.source (length nodes, number_in nodes m) p.is_in of_element in
    sym (pair_all (own_labels nodes) (all_pairs nodes es) (length nodes, number_in nodes m) (below_own nodes es) of_all)

-- a fed node has the sources' label
pub label_from_fed : (es : Elements) {m : NodeName} → Fed es m → node_label es m ≡ fed_label es
label_from_fed es (by_source node c) = source_label es node (in_from_contains (sources es) node c)
label_from_fed es (by_tie group from to g f t fed) =
    group_label es group to from (in_from_contains (ties es) group g) (in_from_contains group to t) (in_from_contains group from f) ∙ label_from_fed es fed

-- whether a node has another label than the sources
abbrev apart : Elements → NodeName → Bool
apart es m = not (node_label es m == fed_label es)

not_true : (b : Bool) → not b ≡ true → b ≡ false
not_true true h = cc
not_true false h = refl

not_false : (b : Bool) → not b ≡ false → b ≡ true
not_false true h = refl
not_false false h = cc

-- an element that mentions a node with another label mentions one that isn't fed
isolated_from : (es : Elements) (e : ElementName × Element) → list_any (apart es) (mentions e.1) ≡ true
    → IsIsolated es e
isolated_from es e h =
    let p = in_from_list_any (apart es) (mentions e.1) h in
    let differs = not_true (node_label es p.element == fed_label es) p.passes in
    record {
      node = p.element;
      is_mentioned = contains_from_in (mentions e.1) p.element p.is_in;
      is_not_fed = λ fed.
          let same : (node_label es p.element == fed_label es) ≡ true =
          eq-eqb (node_label es p.element) (fed_label es) (label_from_fed es fed) in
          cc;
    }

-- one that mentions none is fed
fed_from : (es : Elements) (e : ElementName × Element) → In e es → list_any (apart es) (mentions e.1) ≡ false
    → IsFed es e
fed_from es e here h k d within =
    let m = get_or (mentions e.1) k d in
    let i = in_index (mentions e.1) k d within in
    let same = not_false (node_label es m == fed_label es) (none_from_list_any (apart es) (mentions e.1) m h i) in
    fed_from_label es m (found es e m here i) (eqb-true (node_label es m) (fed_label es) same)

same_test : (es : Elements) (e : Element) (nodes : List NodeName) (labels : List ℕ) (b : Bool) → nodes ≡ nodes_of es
    → labels ≡ labels_of nodes es → b ≡ mentions_apart nodes labels e → b ≡ list_any (apart es) (mentions e)
same_test es e nodes labels b same_nodes same_labels test =
    test ∙ ap (λ l. mentions_apart nodes l e) same_labels ∙ ap (λ n. mentions_apart n (labels_of n es) e) same_nodes

-- the element at this place is the first that isn't fed
pub first_isolated_at : (es : Elements) (k : ℕ) (name : ElementName) (e : Element) (nodes : List NodeName) (labels : List ℕ) (b : Bool)
    → slice_get es k ≡ Some (name, e)
    → nodes ≡ nodes_of es → labels ≡ labels_of nodes es → b ≡ mentions_apart nodes labels e → b ≡ true
    → All (IsFed es) (take k es) → IsFirstIsolated es k
first_isolated_at es k name e nodes labels b here same_nodes same_labels test is_true before = record {
  element = (name, e);
  at_place = here;
  is_isolated = isolated_from es (name, e) (sym (same_test es e nodes labels b same_nodes same_labels test) ∙ is_true);
  before = before;
}

-- the elements up to this one are fed
pub fed_up_to : (es : Elements) (k : ℕ) (name : ElementName) (e : Element) (nodes : List NodeName) (labels : List ℕ) (b : Bool)
    → slice_get es k ≡ Some (name, e)
    → nodes ≡ nodes_of es → labels ≡ labels_of nodes es → b ≡ mentions_apart nodes labels e → b ≡ false
    → All (IsFed es) (take k es) → All (IsFed es) (take (k + 1) es)
fed_up_to es k name e nodes labels b here same_nodes same_labels test is_false before =
    let fed = fed_from es (name, e) (in_from_get es k (name, e) here) (sym (same_test es e nodes labels b same_nodes same_labels test) ∙ is_false) in
    All-more (IsFed es) es k (name, e) (slice_get_within es k (name, e) here) before
    (subst (IsFed es) (sym (get_or_from_slice_get es k (name, e) (name, e) here)) fed)
