-- The nodes of an element by their numbers.
use Rattle.std.proofs.Common.{◌≡◌, ℕ, ◌+◌, ◌<◌, ◌≤◌, Bool, true, false, not, ◌||◌, cond, if◌then◌else◌, List, [], ◌∷◌, ◌++◌, map, filter, All, length, subst, arith}
use Rattle.std.specs.List.{list_any}
use Rattle.std.proofs.lemmas.List.{map-append}
use Rattle.std.proofs.lemmas.List.Elements.{All-nil, All-cons, All-head, All-tail}
use Rattle.dss_ready.specs.dss_layout.declared.nodes.NodeName.{NodeName}
use Rattle.dss_ready.specs.dss_layout.declared.terminals.Terminals.{Terminals}
use Rattle.dss_ready.specs.dss_layout.Among.{IsAmong}
use Rattle.dss_ready.specs.dss_layout.Nodes.{same_node, is_node, node_at, number_in}
use Rattle.dss_ready.proofs.CallerLemmas.dss_layout.{both_parts}
use Rattle.dss_ready.specs.fd_arith.declared.terms.NodeAt.TheVariants.{Ground, Node}
use Rattle.fd_equations.specs.fd_pattern.Conditions.{IsAmong as IsBelow}

-- ---- nodes by number

number_below : (nodes : List NodeName) (m : NodeName) → IsAmong nodes m → number_in nodes m < length nodes
number_below [] m h = cc
number_below (x ∷ xs) m h = by (same_node m x) h (number_below xs m)
  where
    by : (b : Bool) → (b || list_any (same_node m) xs) ≡ true → (IsAmong xs m → number_in xs m < length xs)
        → cond (not b) (1 + number_in xs m) 0 < length (x ∷ xs)
    by true t later = omega arith
    by false t later = let low = later t in omega arith

module _ (nodes : List NodeName) (n : ℕ) (room : length nodes ≤ n) where
  one_below : (m : NodeName) → IsAmong nodes m → IsBelow n (Node (number_in nodes m))
  one_below m h = let low = number_below nodes m h in omega arith

  all_below : (ms : List NodeName) → All (IsAmong nodes) (filter is_node ms) → All (IsBelow n) (map (node_at nodes) ms)
  all_below [] h = All-nil (IsBelow n)
  all_below (m ∷ ms) h = by (is_node m) h (all_below ms)
    where
      by : (b : Bool) → All (IsAmong nodes) (if b then m ∷ filter is_node ms else filter is_node ms)
          → (All (IsAmong nodes) (filter is_node ms) → All (IsBelow n) (map (node_at nodes) ms))
          → All (IsBelow n) ((if b then Node (number_in nodes m) else Ground) ∷ map (node_at nodes) ms)
      by true g later =
          All-cons (IsBelow n) (Node (number_in nodes m)) (map (node_at nodes) ms)
          (one_below m (All-head (IsAmong nodes) m (filter is_node ms) g)) (later (All-tail (IsAmong nodes) m (filter is_node ms) g))
      by false g later = All-cons (IsBelow n) Ground (map (node_at nodes) ms) tt (later g)

  -- the nodes of both sides
  pub sides_below : (t : Terminals) → All (IsAmong nodes) (filter is_node (t.first ++ t.second))
      → All (IsBelow n) (map (node_at nodes) t.first) × All (IsBelow n) (map (node_at nodes) t.second)
  sides_below t h =
      both_parts (IsBelow n) (map (node_at nodes) t.first) (map (node_at nodes) t.second)
      (subst (All (IsBelow n)) (map-append (node_at nodes) t.first t.second) (all_below (t.first ++ t.second) h))
