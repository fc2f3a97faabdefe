-- The strips of a panel have its nodes in order, and at most 42 each.
use Rattle.std.proofs.Common.{◌≡◌, ◌∙◌, ◌+◌, ◌-◌, ◌*◌, ◌/◌, ◌≤◌, ◌<◌, ℕ, zero, suc, List, [], ◌∷◌, ◌++◌, length, map, take, drop, Some, sym, ap, append_assoc, arith}
use Rattle.std.specs.List.{flat_map, slice_get}
use Rattle.std.proofs.lemmas.List.{append-nil, drop-drop, length-drop, length-take, take-append-drop}
use Rattle.fd_picture.specs.Strips.{drawn, rows_from, strip_by, strips_of}
use Rattle.fd_picture.specs.declared.report.Node.{Node}
use Rattle.fd_picture.specs.declared.report.Panel.{Panel}

-- ---- the rows of nodes

rows_join : (panel : Panel) (more : ℕ) (nodes : List Node)
    → flat_map (λ (strip : Panel). strip.nodes) (map (λ nodes. strip_by panel nodes) (rows_from more nodes)) ≡ nodes
rows_join panel zero nodes = append-nil nodes
rows_join panel (suc more) nodes = ap (λ rest. take 42 nodes ++ rest) (rows_join panel more (drop 42 nodes)) ∙ take-append-drop 42 nodes

pub strips_join : (panel : Panel) → flat_map (λ (strip : Panel). strip.nodes) (strips_of panel) ≡ panel.nodes
unfolding strips_of
strips_join panel = rows_join panel ((length panel.nodes - 1) / 42) panel.nodes

rows_most : (panel : Panel) (more : ℕ) (nodes : List Node) (j : ℕ) (strip : Panel) → length nodes ≤ 42 * more + 42
    → slice_get (map (λ nodes. strip_by panel nodes) (rows_from more nodes)) j ≡ Some strip → length strip.nodes ≤ 42
rows_most panel zero nodes zero strip h e =
    let same : strip_by panel nodes ≡ strip = cc e in
    let long : length strip.nodes ≡ length nodes = ap (λ (s : Panel). length s.nodes) (sym same) in
    omega (arith, h, long)
rows_most panel zero nodes (suc j) strip h e = cc e
rows_most panel (suc more) nodes zero strip h e =
    let same : strip_by panel (take 42 nodes) ≡ strip = cc e in
    let long : length strip.nodes ≡ length (take 42 nodes) = ap (λ (s : Panel). length s.nodes) (sym same) in
    omega (arith, long, length-take 42 nodes)
rows_most panel (suc more) nodes (suc j) strip h e =
    let left : length (drop 42 nodes) ≤ 42 * more + 42 = omega (arith, h, length-drop 42 nodes) in
    rows_most panel more (drop 42 nodes) j strip left e

panel_most : (panel : Panel) (j : ℕ) (strip : Panel) → slice_get (strips_of panel) j ≡ Some strip
    → length strip.nodes ≤ 42
unfolding strips_of
panel_most panel j strip e =
    let enough : length panel.nodes ≤ 42 * ((length panel.nodes - 1) / 42) + 42 = omega arith in
    rows_most panel ((length panel.nodes - 1) / 42) panel.nodes j strip enough e

-- what holds of the elements of both parts holds of the whole
within : {A : Type 0} (P : A → Type 0) (xs ys : List A) (j : ℕ) (x : A)
    → ((i : ℕ) (y : A) → slice_get xs i ≡ Some y → P y)
    → ((i : ℕ) (y : A) → slice_get ys i ≡ Some y → P y)
    → slice_get (xs ++ ys) j ≡ Some x → P x
within P [] ys j x first second e = second j x e
within P (z ∷ xs) ys zero x first second e = first 0 x e
within P (z ∷ xs) ys (suc j) x first second e = within P xs ys j x (λ i y h. first (suc i) y h) second e

pub strips_most : (panels : List Panel) (j : ℕ) (strip : Panel) → slice_get (drawn panels) j ≡ Some strip
    → length strip.nodes ≤ 42
strips_most [] j strip e = cc e
strips_most (panel ∷ panels) j strip e =
    within (λ (s : Panel). length s.nodes ≤ 42) (strips_of panel) (drawn panels) j strip
    (λ i y h. panel_most panel i y h) (λ i y h. strips_most panels i y h) e

-- ---- the next full row

rows_next : (full i : ℕ) (nodes : List Node) → i < full
    → rows_from (full - i) (drop (42 * i) nodes)
    ≡ take (42 * (i + 1) - 42 * i) (drop (42 * i) nodes) ∷ rows_from (full - (i + 1)) (drop (42 * (i + 1)) nodes)
rows_next full i nodes h =
    let more : full - i ≡ suc (full - (i + 1)) = omega (arith, h) in
    let one : 42 ≡ 42 * (i + 1) - 42 * i = omega arith in
    let next : 42 * i + 42 ≡ 42 * (i + 1) = omega arith in
    ap (λ n. rows_from n (drop (42 * i) nodes)) more
    ∙ ap (λ n. take n (drop (42 * i) nodes) ∷ rows_from (full - (i + 1)) (drop 42 (drop (42 * i) nodes))) one
    ∙ ap (λ rest. take (42 * (i + 1) - 42 * i) (drop (42 * i) nodes) ∷ rows_from (full - (i + 1)) rest)
    (drop-drop 42 (42 * i) nodes ∙ ap (λ n. drop n nodes) next)

-- the strips so far with the next one, before the rest
pub strips_next : (panel : Panel) (full i : ℕ) (nodes : List Node) (before after : List Panel) (strip : Panel)
    → i < full
    → strip ≡ strip_by panel (take (42 * (i + 1) - 42 * i) (drop (42 * i) nodes)) → after ≡ before ++ strip ∷ []
    → after ++ map (λ nodes. strip_by panel nodes) (rows_from (full - (i + 1)) (drop (42 * (i + 1)) nodes))
    ≡ before ++ map (λ nodes. strip_by panel nodes) (rows_from (full - i) (drop (42 * i) nodes))
strips_next panel full i nodes before after strip h is goes =
    let rest = map (λ nodes. strip_by panel nodes) (rows_from (full - (i + 1)) (drop (42 * (i + 1)) nodes)) in
    ap (λ items. items ++ rest) goes ∙ append_assoc before (strip ∷ []) rest ∙ ap (λ s. before ++ s ∷ rest) is
    ∙ sym (ap (λ rows. before ++ map (λ nodes. strip_by panel nodes) rows) (rows_next full i nodes h))
