-- Each mark stands inside the frame of its strip, and each strip inside the page and apart from the others.
use Rattle.std.proofs.Common.{◌≡◌, ◌+◌, ◌-◌, ◌*◌, ◌/◌, ◌%◌, ◌^◌, ◌<◌, ◌≤◌, ◌==◌, ◌&&◌, inl, inr, ℕ, zero, suc, List, [], ◌∷◌, length, fold, max, min, nat_lt, Bool, true, false, Option, Some, None, unwrap_or, if◌then◌else◌, refl, sym, ap, arith, subst}
use Rattle.std.specs.List.{slice_get}
use Rattle.std.specs.Prelude.{⊤}
use Rattle.std.proofs.Math.Nat.{div-mul-le_self, mod-lt, mul-le-mul_right, mod-add-div'}
use Rattle.std.proofs.lemmas.Bool.Decides.{nat_tests}
use Rattle.std.proofs.lemmas.Nat.{le-div}
use Rattle.fd_picture.proofs.Orders.{drawn_in_range}
use Rattle.fd_picture.proofs.Rows.{strips_join, strips_most}
use Rattle.fd_picture.specs.Bases.{base_of}
use Rattle.fd_picture.specs.Drafts.{ReportView}
use Rattle.fd_picture.specs.Laws.{FrameLaw, IsApart, page_grid, page_scale, ReachesOver, StandsInFrame, StandsOnAxis, mark_at}
use Rattle.fd_picture.specs.Marks.{mark_of}
use Rattle.fd_picture.specs.Pages.{grid_of, most_nodes, page_width, panel_left, panel_top, table_top}
use Rattle.fd_picture.specs.Panels.{frame_width}
use Rattle.fd_picture.specs.Scales.{axis_of, bare_axis, place, scale_of, widened, widened_by, widened_near}
use Rattle.fd_picture.specs.Strips.{drawn}
use Rattle.fd_exact.specs.RootThree.{root_three}
use Rattle.fd_picture.specs.Units.{is_far, is_per_unit, micro_base, per_unit_at, per_unit_by, per_unit_span, span_in_range, span_of, volts_span}
use Rattle.fd_picture.specs.declared.page.Grid.{Grid}
use Rattle.fd_picture.specs.declared.report.Base.{Base}
use Rattle.fd_picture.specs.declared.report.Node.{Node}
use Rattle.fd_picture.specs.declared.report.Panel.{Panel}
use Rattle.fd_picture.specs.declared.units.Span.{Span}

-- ---- the span of a node

pub div_grows : (a b m : ℕ) → 0 < m → a ≤ b → a / m ≤ b / m
div_grows a b m h le =
    let below : a / m * m ≤ b = omega (arith, div-mul-le_self a m, le) in
    le-div (a / m) b m h below

abbrev pub IsOrdered : Option Span → Type 0
IsOrdered None = ⊤
IsOrdered (Some span) = span.low ≤ span.high

range_ordered : (low high : ℕ) → low ≤ high → IsOrdered (span_in_range low high)
range_ordered low high h = cases (nat_lt low (2 ^ 64) && nat_lt high (2 ^ 64)) refl
  where
    cases : (b : Bool) → (nat_lt low (2 ^ 64) && nat_lt high (2 ^ 64)) ≡ b → IsOrdered (span_in_range low high)
    cases true e = rw e h
    cases false e = rw e tt

base_positive : (base : ℕ) → (micro_base base == 0) ≡ false → 0 < micro_base base
base_positive base e = grind (arith, nat_tests, e)

per_unit_ordered : (base : ℕ) (node : Node) → node.low ≤ node.high → IsOrdered (per_unit_span base node)
unfolding per_unit_span
per_unit_ordered base node h = cases (micro_base base == 0) refl
  where
    cases : (b : Bool) → (micro_base base == 0) ≡ b → IsOrdered (per_unit_span base node)
    cases true e = rw e tt
    cases false e =
        let product : node.low * root_three ≤ node.high * root_three = mul-le-mul_right root_three h in
        let rounded : node.low * root_three ≤ node.high * root_three + (micro_base base - 1) = omega (arith, product) in
        let low = node.low * root_three / micro_base base in
        let high = (node.high * root_three + (micro_base base - 1)) / micro_base base in
        rw e (range_ordered low high (div_grows _ _ (micro_base base) (base_positive base e) rounded))

by_ordered : (base : Option ℕ) (node : Node) → node.low ≤ node.high → IsOrdered (per_unit_by base node)
by_ordered None node h = tt
by_ordered (Some base) node h = per_unit_ordered base node h

or_ordered : (found : Option Span) (span : Span) → IsOrdered found → span.low ≤ span.high
    → (unwrap_or found span).low ≤ (unwrap_or found span).high
or_ordered None span f h = h
or_ordered (Some s) span f h = f

pub span_ordered : (bases : List Base) (per_unit : Bool) (node : Node) → node.low ≤ node.high
    → (span_of bases per_unit node).low ≤ (span_of bases per_unit node).high
unfolding span_of
span_ordered bases true node h = or_ordered (per_unit_at bases node) (volts_span node) (by_ordered (base_of bases node.bus) node h) h
span_ordered bases false node h = h

-- ---- the axis reaches over the spans of all nodes that aren't far

abbrev pub Covers : Option Span → Span → Type 0
Covers None span = ⊥
Covers (Some axis) span = (axis.low ≤ span.low) × (span.high ≤ axis.high)

still_covered : (axis : Option Span) (more span : Span) → Covers axis span → Covers (Some (widened axis more)) span
still_covered None more span h = absurd h
still_covered (Some axis) more span h = (omega (arith, h.0), omega (arith, h.1))

now_covered : (axis : Option Span) (span : Span) → Covers (Some (widened axis span)) span
now_covered None span = (omega arith, omega arith)
now_covered (Some axis) span = (omega arith, omega arith)

near_keeps : (per_unit : Bool) (axis : Option Span) (more span : Span) → Covers axis span
    → Covers (widened_near per_unit axis more) span
near_keeps per_unit axis more span h = cases (is_far per_unit more)
  where
    cases : (b : Bool) → Covers (if b then axis else Some (widened axis more)) span
    cases true = h
    cases false = still_covered axis more span h

near_covers : (per_unit : Bool) (axis : Option Span) (span : Span) → is_far per_unit span ≡ false
    → Covers (widened_near per_unit axis span) span
near_covers per_unit axis span near = rw near (now_covered axis span)

nodes_keep : (bases : List Base) (per_unit : Bool) (nodes : List Node) (axis : Option Span) (span : Span)
    → Covers axis span
    → Covers (widened_by bases per_unit axis nodes) span
unfolding widened_by
nodes_keep bases per_unit [] axis span h = h
nodes_keep bases per_unit (n ∷ nodes) axis span h =
    nodes_keep bases per_unit nodes (widened_near per_unit axis (span_of bases per_unit n)) span (near_keeps per_unit axis (span_of bases per_unit n) span h)

nodes_cover : (bases : List Base) (per_unit : Bool) (nodes : List Node) (axis : Option Span) (k : ℕ) (node : Node)
    → slice_get nodes k ≡ Some node → is_far per_unit (span_of bases per_unit node) ≡ false
    → Covers (widened_by bases per_unit axis nodes) (span_of bases per_unit node)
unfolding widened_by
nodes_cover bases per_unit [] axis k node e near = cc e
nodes_cover bases per_unit (n ∷ nodes) axis zero node e near =
    let same : n ≡ node = cc e in
    subst (λ m. Covers (widened_by bases per_unit axis (n ∷ nodes)) (span_of bases per_unit m)) same
    (nodes_keep bases per_unit nodes (widened_near per_unit axis (span_of bases per_unit n)) (span_of bases per_unit n)
    (near_covers per_unit axis (span_of bases per_unit n) (subst (λ (m : Node). is_far per_unit (span_of bases per_unit m) ≡ false) (sym same) near)))
nodes_cover bases per_unit (n ∷ nodes) axis (suc k) node e near =
    nodes_cover bases per_unit nodes (widened_near per_unit axis (span_of bases per_unit n)) k node e near

abbrev pub over : List Base → Bool → Option Span → List Panel → Option Span
over bases per_unit axis panels = fold (λ axis panel. widened_by bases per_unit axis panel.nodes) axis panels

panels_keep : (bases : List Base) (per_unit : Bool) (panels : List Panel) (axis : Option Span) (span : Span)
    → Covers axis span
    → Covers (over bases per_unit axis panels) span
panels_keep bases per_unit [] axis span h = h
panels_keep bases per_unit (p ∷ panels) axis span h =
    panels_keep bases per_unit panels (widened_by bases per_unit axis p.nodes) span (nodes_keep bases per_unit p.nodes axis span h)

panels_cover : (bases : List Base) (per_unit : Bool) (panels : List Panel) (axis : Option Span) (j : ℕ) (panel : Panel) (span : Span)
    → ((a : Option Span) → Covers (widened_by bases per_unit a panel.nodes) span) → slice_get panels j ≡ Some panel
    → Covers (over bases per_unit axis panels) span
panels_cover bases per_unit [] axis j panel span h e = cc e
panels_cover bases per_unit (p ∷ panels) axis zero panel span h e =
    let same : panel ≡ p = cc e in
    panels_keep bases per_unit panels (widened_by bases per_unit axis p.nodes) span
    (subst (λ (q : Panel). Covers (widened_by bases per_unit axis q.nodes) span) same (h axis))
panels_cover bases per_unit (p ∷ panels) axis (suc j) panel span h e =
    panels_cover bases per_unit panels (widened_by bases per_unit axis p.nodes) j panel span h e

or_covers : (found : Option Span) (other span : Span) → Covers found span → Covers (Some (unwrap_or found other)) span
or_covers None other span h = absurd h
or_covers (Some axis) other span h = h

pub axis_covers : (bases : List Base) (per_unit : Bool) (panels : List Panel) (panel : Panel) (j k : ℕ) (node : Node)
    → slice_get panels j ≡ Some panel
    → slice_get panel.nodes k ≡ Some node → is_far per_unit (span_of bases per_unit node) ≡ false
    → Covers (Some (axis_of bases per_unit panels)) (span_of bases per_unit node)
unfolding axis_of
axis_covers bases per_unit panels panel j k node there has near =
    or_covers (over bases per_unit None panels) (bare_axis per_unit) (span_of bases per_unit node)
    (panels_cover bases per_unit panels None j panel (span_of bases per_unit node)
    (λ a. nodes_cover bases per_unit panel.nodes a k node has near) there)

pub axis_reaches : (r : ReportView) (panel : Panel) (j k : ℕ) (node : Node) → slice_get (drawn r.panels) j ≡ Some panel
    → slice_get panel.nodes k ≡ Some node → is_far (page_scale r).per_unit (span_of r.bases (page_scale r).per_unit node) ≡ false
    → ReachesOver (page_scale r).axis (span_of r.bases (page_scale r).per_unit node)
unfolding scale_of
axis_reaches r panel j k node there has near =
    let covers = axis_covers r.bases (is_per_unit r.bases (drawn r.panels)) (drawn r.panels) panel j k node there has near in
    record { low = covers.0; high = covers.1 }

-- ---- the axis

least_most : (x n : ℕ) → min x n ≤ n
least_most x n = omega arith

least_grows : (x y n : ℕ) → x ≤ y → min x n ≤ min y n
least_grows x y n h = omega (arith, h)

place_most : (axis : Span) (v : ℕ) → place axis v ≤ 220
unfolding place
place_most axis v = least_most ((v - axis.low) * 220 / max (axis.high - axis.low) 1) 220

place_grows : (axis : Span) (v w : ℕ) → v ≤ w → place axis v ≤ place axis w
unfolding place
place_grows axis v w h =
    let some : 0 < max (axis.high - axis.low) 1 = omega arith in
    let more : (v - axis.low) * 220 ≤ (w - axis.low) * 220 = omega (arith, h) in
    let grows = div_grows ((v - axis.low) * 220) ((w - axis.low) * 220) (max (axis.high - axis.low) 1) some more in
    least_grows ((v - axis.low) * 220 / max (axis.high - axis.low) 1) ((w - axis.low) * 220 / max (axis.high - axis.low) 1) 220 grows

pub on_axis : (r : ReportView) (node : Node) → node.low ≤ node.high
    → StandsOnAxis (page_scale r).axis (span_of r.bases (page_scale r).per_unit node)
on_axis r node h =
    let span = span_of r.bases (page_scale r).per_unit node in
    record {
      low = place_grows (page_scale r).axis span.low span.high (span_ordered r.bases (page_scale r).per_unit node h);
      high = place_most (page_scale r).axis span.high;
    }

-- ---- the frame

place_within : {A : Type 0} (xs : List A) (k : ℕ) (x : A) → slice_get xs k ≡ Some x → k < length xs
place_within [] k x e = cc e
place_within (y ∷ ys) zero x e = omega arith
place_within (y ∷ ys) (suc k) x e = omega (arith, place_within ys k x e)

framed : (axis span : Span) (per_unit : Bool) (k n : ℕ) (node : Node) → k < n → StandsOnAxis axis span
    → StandsInFrame (mark_of axis per_unit k node span) n
unfolding mark_of
framed axis span per_unit k n node h on = record {
  left = omega arith;
  right = omega (arith, h);
  top = omega (arith, on.high);
  bottom = omega (arith, on.low, on.high);
}

pub in_frame : (r : ReportView) (panel : Panel) (k : ℕ) (node : Node) → slice_get panel.nodes k ≡ Some node
    → node.low ≤ node.high
    → StandsInFrame (mark_at r.bases (page_scale r) k node) (length panel.nodes)
in_frame r panel k node has h =
    let scale = page_scale r in
    framed scale.axis (span_of r.bases scale.per_unit node) scale.per_unit k (length panel.nodes) node
    (place_within panel.nodes k node has) (on_axis r node h)

most_keeps : (panels : List Panel) (m : ℕ) → m ≤ fold (λ most panel. max most (length panel.nodes)) m panels
most_keeps [] m = omega arith
most_keeps (p ∷ panels) m = omega (arith, most_keeps panels (max m (length p.nodes)))

most_covers : (panels : List Panel) (m j : ℕ) (panel : Panel) → slice_get panels j ≡ Some panel
    → length panel.nodes ≤ fold (λ most panel. max most (length panel.nodes)) m panels
most_covers [] m j panel e = cc e
most_covers (p ∷ panels) m zero panel e =
    let same : p ≡ panel = cc e in
    let here : length panel.nodes ≡ length p.nodes = ap (λ (q : Panel). length q.nodes) (sym same) in
    omega (arith, here, most_keeps panels (max m (length p.nodes)))
most_covers (p ∷ panels) m (suc j) panel e = most_covers panels (max m (length p.nodes)) j panel e

pub in_panel : (r : ReportView) (panel : Panel) (j : ℕ) → slice_get (drawn r.panels) j ≡ Some panel
    → 100 + frame_width (length panel.nodes) ≤ (page_grid r).width
unfolding grid_of
in_panel r panel j there = omega (arith, most_keeps (drawn r.panels) 7, most_covers (drawn r.panels) 7 j panel there)

-- ---- the page

rows_apart : (a b h : ℕ) → a < b → a * h + h ≤ b * h
rows_apart a b h less =
    let more : a + 1 ≤ b = omega (arith, less) in
    let product : (a + 1) * h ≤ b * h = mul-le-mul_right h more in
    omega (arith, product)

same_row : (k l c : ℕ) → k < l → k / c ≡ l / c → k % c < l % c
same_row k l c h e =
    let rows : k / c * c ≡ l / c * c = ap (λ q. q * c) e in
    omega (arith, h, rows, mod-add-div' k c, mod-add-div' l c)

apart_by : (g : Grid) (k l : ℕ) → 0 < g.columns → k < l → IsApart g k l
apart_by g k l some h = cases (nat_lt (k / g.columns) (l / g.columns)) refl
  where
    cases : (b : Bool) → nat_lt (k / g.columns) (l / g.columns) ≡ b → IsApart g k l
    cases true e =
        let above : k / g.columns < l / g.columns = grind (arith, nat_tests, e) in
        inr (omega (arith, rows_apart (k / g.columns) (l / g.columns) g.height above))
    cases false e =
        let not_above : l / g.columns ≤ k / g.columns = grind (arith, nat_tests, e) in
        let grows : k / g.columns ≤ l / g.columns = div_grows k l g.columns some (omega (arith, h)) in
        let row : k / g.columns ≡ l / g.columns = omega (arith, not_above, grows) in
        inl (rows_apart (k % g.columns) (l % g.columns) g.width (same_row k l g.columns h row))

some_columns : (panels : List Panel) → 0 < (grid_of panels).columns
unfolding grid_of
some_columns panels = omega arith

pub panels_apart : (r : ReportView) (k l : ℕ) → k < l → IsApart (page_grid r) k l
panels_apart r k l h = apart_by (page_grid r) k l (some_columns (drawn r.panels)) h

fit : (q w : ℕ) → q * w ≤ 1000 → max q 1 * w ≤ max w 1000
fit zero w h =
    let one : max 0 1 ≡ 1 = omega arith in
    rw one (omega arith)
fit (suc q) w h =
    let same : max (suc q) 1 ≡ suc q = omega arith in
    rw same (omega (arith, h))

columns_fit : (panels : List Panel)
    → (grid_of panels).columns * (grid_of panels).width ≤ max (grid_of panels).width 1000
unfolding grid_of
columns_fit panels = fit (1000 / (110 + 20 * most_nodes panels)) (110 + 20 * most_nodes panels) (div-mul-le_self 1000 (110 + 20 * most_nodes panels))

pub within_page : (r : ReportView) (k : ℕ)
    → panel_left (page_grid r) k + (page_grid r).width ≤ page_width (page_grid r) r
within_page r k =
    let g = page_grid r in
    let column = rows_apart (k % g.columns) g.columns g.width (mod-lt k (some_columns (drawn r.panels))) in
    omega (arith, column, columns_fit (drawn r.panels))

row_ends : (k n c : ℕ) → 0 < c → k < n → k / c < (n + (c - 1)) / c
row_ends k n c some h =
    let product : (k / c + 1) * c ≤ n + (c - 1) = omega (arith, div-mul-le_self k c, some, h) in
    let last : k / c + 1 ≤ (n + (c - 1)) / c = le-div (k / c + 1) (n + (c - 1)) c some product in
    omega (arith, last)

pub above_table : (r : ReportView) (k : ℕ) → k < length (drawn r.panels)
    → panel_top (page_grid r) k + (page_grid r).height ≤ table_top (page_grid r) (length (drawn r.panels))
above_table r k h =
    let g = page_grid r in
    let n = length (drawn r.panels) in
    let row = row_ends k n g.columns (some_columns (drawn r.panels)) h in
    omega (arith, rows_apart (k / g.columns) ((n + (g.columns - 1)) / g.columns) g.height row)

pub frame_law_holds : FrameLaw
frame_law_holds = record {
  nodes = strips_join;
  most = λ r. strips_most r.panels;
  order = λ bytes r j k strip node reads is. drawn_in_range bytes r strip j k node reads is.has_strip is.has_node;
  axis = λ r j k strip node is h. on_axis r node h;
  reach = λ r j k strip node is near. axis_reaches r strip j k node is.has_strip is.has_node near;
  frame = λ r j k strip node is h. in_frame r strip k node is.has_node h;
  strip = λ r j strip there. in_panel r strip j there;
  apart = panels_apart;
  across = within_page;
  down = above_table;
  table = λ r. omega arith;
}
