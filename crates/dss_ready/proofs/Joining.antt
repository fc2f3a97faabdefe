-- Steps of the loops that join labels.
use Rattle.std.proofs.Common.{◌≡◌, ℕ, zero, suc, ◌+◌, ◌<◌, ◌≤◌, min, List, [], ◌∷◌, ◌++◌, length, map, filter, take, drop, set, slice_get, Some, get_or, refl, sym, ap, ◌∙◌, add-zero, arith}
use Rattle.std.specs.List.{zip, flat_map, range_with_len}
use Rattle.dss_circuit.specs.dss_model.declared.element.Element.{Element}
use Rattle.dss_circuit.specs.dss_model.declared.names.ElementName.{ElementName}
use Rattle.dss_layout.specs.declared.nodes.NodeName.{NodeName}
use Rattle.dss_layout.specs.declared.terminals.Terminals.{Terminals}
use Rattle.dss_layout.specs.Nodes.{is_node}
use Rattle.dss_layout.specs.Layout.{Elements}
use Rattle.dss_ready.specs.Feeding.{phase_ends}
use Rattle.dss_ready.specs.Labels.{joined, joined_all, group_pairs, element_pairs, all_pairs}
use Rattle.dss_layout.proofs.CallerLemmas.{drop-more}

-- one more element of a list changed in place
pub set-mapped : (f : ℕ → ℕ) (xs : List ℕ) (i : ℕ) → i < length xs
    → set (map f (take i xs) ++ drop i xs) i (f (get_or xs i 0)) ≡ map f (take (suc i) xs) ++ drop (suc i) xs
set-mapped f [] i h = absurd (omega arith)
set-mapped f (x ∷ xs) zero h = refl
set-mapped f (x ∷ xs) (suc i) h = ap (λ l. f x ∷ l) (set-mapped f xs i (omega arith))

pub get_or-mapped : (f : ℕ → ℕ) (xs : List ℕ) (i d : ℕ) → get_or (map f (take i xs) ++ drop i xs) i d ≡ get_or xs i d
get_or-mapped f [] zero d = refl
get_or-mapped f [] (suc i) d = refl
get_or-mapped f (x ∷ xs) zero d = refl
get_or-mapped f (x ∷ xs) (suc i) d = get_or-mapped f xs i d

pub zip-nil : {A B : Type 0} (xs : List A) → zip {K = A} {X = B} xs [] ≡ []
zip-nil [] = refl
zip-nil (x ∷ xs) = refl

-- no pairs are left after the shorter list
pub zip-dropped : {A B : Type 0} (xs : List A) (ys : List B) (k : ℕ) → min (length xs) (length ys) ≤ k
    → zip (drop k xs) (drop k ys) ≡ []
zip-dropped [] ys zero h = refl
zip-dropped [] ys (suc k) h = refl
zip-dropped (x ∷ xs) [] zero h = refl
zip-dropped (x ∷ xs) [] (suc k) h = zip-nil (drop k xs)
zip-dropped (x ∷ xs) (y ∷ ys) zero h = absurd (omega arith)
zip-dropped (x ∷ xs) (y ∷ ys) (suc k) h = zip-dropped xs ys k (omega arith)

-- one more number
pub range_with_len-more : (a n : ℕ) → range_with_len a (suc n) ≡ range_with_len a n ++ (a + n) ∷ []
range_with_len-more a zero = ap (λ k. k ∷ []) (sym (add-zero a))
range_with_len-more a (suc n) = ap (λ l. a ∷ l) (range_with_len-more (a + 1) n ∙ ap (λ k. range_with_len (a + 1) n ++ k ∷ []) (omega arith))

pub joined_all-append : (labels : List ℕ) (ps qs : List (ℕ × ℕ))
    → joined_all labels (ps ++ qs) ≡ joined_all (joined_all labels ps) qs
joined_all-append labels [] qs = refl
joined_all-append labels (p ∷ ps) qs = joined_all-append (joined labels p) ps qs

-- one more element's pairs
pub joined_next : (nodes : List NodeName) (es : Elements) (k : ℕ) (name : ElementName) (e : Element) (labels new : List ℕ)
    → slice_get es k ≡ Some (name, e)
    → new ≡ joined_all labels (element_pairs nodes e)
    → joined_all new (all_pairs nodes (drop (k + 1) es)) ≡ joined_all labels (all_pairs nodes (drop k es))
joined_next nodes es k name e labels new here made =
    ap (λ l. joined_all l (all_pairs nodes (drop (k + 1) es))) made
    ∙ sym (joined_all-append labels (element_pairs nodes e) (all_pairs nodes (drop (k + 1) es)))
    ∙ ap (λ l. joined_all labels (all_pairs nodes l)) (sym (drop-more es k (name, e) here))

-- all phases are done once the shorter list is
pub joined_phases : (nodes : List NodeName) (labels old : List ℕ) (first second xs ys : List NodeName) (k : ℕ)
    → xs ≡ first → ys ≡ second → min (length xs) (length ys) ≤ k
    → joined_all labels (flat_map (group_pairs nodes) (phase_ends (let t : Terminals = record { first = drop k xs; second = drop k ys } in t)))
    ≡ joined_all old (flat_map (group_pairs nodes) (phase_ends (let t : Terminals = record { first = xs; second = ys } in t)))
    → labels ≡ joined_all old (flat_map (group_pairs nodes) (phase_ends (let t : Terminals = record { first = first; second = second } in t)))
joined_phases nodes labels old first second xs ys k same_first same_second done h =
    ap (λ z. joined_all labels (flat_map (group_pairs nodes) (map (λ p. filter is_node (p.0 ∷ p.1 ∷ [])) z))) (sym (zip-dropped xs ys k done))
    ∙ h
    ∙ (λ i. joined_all old (flat_map (group_pairs nodes) (phase_ends (let t : Terminals = record { first = same_first i; second = same_second i } in t))))
