-- What one more element adds to a layout.
use Rattle.std.proofs.Common.{◌≡◌, ℕ, ◌+◌, Bool, true, false, nat_lt, ◌||◌, List, [], ◌∷◌, ◌++◌, length, filter, sym, ap, ◌∙◌, append_assoc, length-append, zero-add, if◌then◌else◌, arith}
use Rattle.std.specs.List.{list_any, flat_map}
use Rattle.std.proofs.lemmas.List.{append-nil}
use Rattle.std.proofs.lemmas.List.Elements.{filter-append}
use Rattle.std.proofs.lemmas.List.FromFn.{map-range_with_len_more, length-map-range_with_len}
use Rattle.std.proofs.lemmas.Grind.{flat_map-append}
use Rattle.dss_model.specs.declared.element.Element.{Element}
use Rattle.dss_model.specs.declared.names.ElementName.{ElementName}
use Rattle.dss_layout.specs.declared.nodes.NodeName.{NodeName}
use Rattle.dss_layout.specs.declared.nodes.PhaseName.{PhaseName}
use Rattle.dss_layout.specs.Limits.{most_complex, most_magnitudes}
use Rattle.dss_layout.specs.Nodes.{same_node, new_nodes, is_node}
use Rattle.dss_layout.specs.Terminals.{mentions}
use Rattle.dss_layout.specs.Layout.{Elements, LayoutView, layout_of, added, passes_limit, phase_names, branch_phases, magnitude_phases, sums_before}

pub phase_names_more : (e : ElementName) (n : ℕ)
    → phase_names e (n + 1) ≡ phase_names e n ++ (let p : PhaseName = record { element = e; phase = n + 1 } in p) ∷ []
phase_names_more e n = map-range_with_len_more _ 1 n (n + 1) (omega arith)

-- the names of one more phase
pub phase_pushed : (before so_far now : List PhaseName) (e name : ElementName) (n : ℕ)
    → so_far ≡ before ++ phase_names e n → name ≡ e
    → now ≡ so_far ++ (let p : PhaseName = record { element = name; phase = n + 1 } in p) ∷ []
    → now ≡ before ++ phase_names e (n + 1)
phase_pushed before so_far now e name n h same pushed =
    pushed
    ∙ (λ i. h i ++ (let p : PhaseName = record { element = same i; phase = n + 1 } in p) ∷ [])
    ∙ append_assoc before (phase_names e n) ((let p : PhaseName = record { element = e; phase = n + 1 } in p) ∷ [])
    ∙ ap (λ l. before ++ l) (sym (phase_names_more e n))

pub length-phase_names : (e : ElementName) (n : ℕ) → length (phase_names e n) ≡ n
length-phase_names e n = length-map-range_with_len _ 1 n

-- the new nodes of two lists: those of the first, and then those of the second that the first lacks
pub new_nodes-append : (before xs ys : List NodeName)
    → new_nodes before (xs ++ ys) ≡ new_nodes before xs ++ new_nodes (before ++ new_nodes before xs) ys
new_nodes-append before [] ys = ap (λ b. new_nodes b ys) (sym (append-nil before))
new_nodes-append before (x ∷ xs) ys = by (list_any (same_node x) before) (new_nodes-append before xs ys) (new_nodes-append (before ++ x ∷ []) xs ys)
  where
    by : (b : Bool)
        → new_nodes before (xs ++ ys) ≡ new_nodes before xs ++ new_nodes (before ++ new_nodes before xs) ys
        → new_nodes (before ++ x ∷ []) (xs ++ ys)
        ≡ new_nodes (before ++ x ∷ []) xs ++ new_nodes ((before ++ x ∷ []) ++ new_nodes (before ++ x ∷ []) xs) ys
        → (if b then new_nodes before (xs ++ ys) else x ∷ new_nodes (before ++ x ∷ []) (xs ++ ys))
        ≡ (if b then new_nodes before xs else x ∷ new_nodes (before ++ x ∷ []) xs)
        ++ new_nodes (before ++ (if b then new_nodes before xs else x ∷ new_nodes (before ++ x ∷ []) xs)) ys
    by true here later = here
    by false here later =
        ap (λ l. x ∷ l) later
        ∙ ap (λ l. x ∷ (new_nodes (before ++ x ∷ []) xs ++ new_nodes l ys)) (append_assoc before (x ∷ []) (new_nodes (before ++ x ∷ []) xs))

-- the nodes of two lists, one after the other
pub noted_twice : (before xs ys : List NodeName)
    → (before ++ new_nodes before xs) ++ new_nodes (before ++ new_nodes before xs) ys ≡ before ++ new_nodes before (xs ++ ys)
noted_twice before xs ys =
    append_assoc before (new_nodes before xs) (new_nodes (before ++ new_nodes before xs) ys)
    ∙ ap (λ l. before ++ l) (sym (new_nodes-append before xs ys))

pub noted_filtered : (before xs ys : List NodeName)
    → (before ++ new_nodes before (filter is_node xs))
    ++ new_nodes (before ++ new_nodes before (filter is_node xs)) (filter is_node ys)
    ≡ before ++ new_nodes before (filter is_node (xs ++ ys))
noted_filtered before xs ys =
    noted_twice before (filter is_node xs) (filter is_node ys) ∙ ap (λ l. before ++ new_nodes before l) (sym (filter-append is_node xs ys))

-- whether a limit is passed with one more element, by counts
pub passes_limit-added : (v : LayoutView) (name : ElementName) (e : Element) (nodes branches more magnitudes most : ℕ)
    → nodes ≡ length (v.nodes ++ new_nodes v.nodes (mentions e)) → branches ≡ length v.branches → more ≡ branch_phases e
    → magnitudes ≡ length v.magnitudes → most ≡ magnitude_phases e
    → (nat_lt most_complex (nodes + branches + more) || nat_lt most_magnitudes (magnitudes + most)) ≡ passes_limit (added v name e)
passes_limit-added v name e nodes branches more magnitudes most n b bp m mp =
    let l : length (v.branches ++ phase_names name (branch_phases e)) ≡ branches + more =
    length-append v.branches _ ∙ ap (λ k. length v.branches + k) (length-phase_names name (branch_phases e)) ∙ (λ i. sym b i + sym bp i) in
    let k : length (v.magnitudes ++ phase_names name (magnitude_phases e)) ≡ magnitudes + most =
    length-append v.magnitudes _ ∙ ap (λ k. length v.magnitudes + k) (length-phase_names name (magnitude_phases e)) ∙ (λ i. sym m i + sym mp i) in
    let c : nodes + branches + more
    ≡ length (v.nodes ++ new_nodes v.nodes (mentions e)) + length (v.branches ++ phase_names name (branch_phases e)) =
    omega (arith, l, n) in
    (λ i. nat_lt most_complex (c i) || nat_lt most_magnitudes (sym k i))

-- the sums before one more element
sums_before-push : (f : Element → ℕ) (names : ElementName → ℕ → List PhaseName)
    (same : (n : ElementName) (k : ℕ) → length (names n k) ≡ k) (s : ℕ) (es : Elements) (name : ElementName)
    (e : Element)
    → sums_before f s (es ++ (name, e) ∷ [])
    ≡ sums_before f s es ++ (s + length (flat_map (λ x. names x.0 (f x.1)) es)) ∷ []
sums_before-push f names same s [] name e = ap (λ n. n ∷ []) (omega arith)
sums_before-push f names same s (x ∷ es) name e =
    let rest = flat_map (λ y. names y.0 (f y.1)) es in
    let l : length (names x.0 (f x.1) ++ rest) ≡ f x.1 + length rest = length-append (names x.0 (f x.1)) rest ∙ ap (λ n. n + length rest) (same x.0 (f x.1)) in
    let n : s + f x.1 + length rest ≡ s + length (names x.0 (f x.1) ++ rest) = omega (arith, l) in
    ap (λ t. s ∷ t) (sums_before-push f names same (s + f x.1) es name e ∙ ap (λ k. sums_before f (s + f x.1) es ++ k ∷ []) n)

-- the layout of one more element
pub layout_of-push : (es : Elements) (name : ElementName) (e : Element)
    → layout_of (es ++ (name, e) ∷ []) ≡ added (layout_of es) name e
layout_of-push es name e =
    let one = (name, e) ∷ [] in
    let nodes = ap (new_nodes []) (flat_map-append (λ x. mentions x.1) es one
    ∙ ap (λ l. flat_map (λ x. mentions x.1) es ++ l) (append-nil (mentions e)))
    ∙ new_nodes-append [] (flat_map (λ x. mentions x.1) es) (mentions e) in
    let branches = flat_map-append (λ x. phase_names x.0 (branch_phases x.1)) es one
    ∙ ap (λ l. flat_map (λ x. phase_names x.0 (branch_phases x.1)) es ++ l)
    (append-nil (phase_names name (branch_phases e))) in
    let magnitudes = flat_map-append (λ x. phase_names x.0 (magnitude_phases x.1)) es one
    ∙ ap (λ l. flat_map (λ x. phase_names x.0 (magnitude_phases x.1)) es ++ l)
    (append-nil (phase_names name (magnitude_phases e))) in
    let bs = sums_before-push branch_phases phase_names length-phase_names 0 es name e ∙ ap (λ k. sums_before branch_phases 0 es ++ k ∷ []) (zero-add _) in
    let ms = sums_before-push magnitude_phases phase_names length-phase_names 0 es name e
    ∙ ap (λ k. sums_before magnitude_phases 0 es ++ k ∷ []) (zero-add _) in
    (λ i. record { nodes = nodes i; branches = branches i; magnitudes = magnitudes i; branches_before = bs i; magnitudes_before = ms i })
