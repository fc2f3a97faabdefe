-- A panel has one mark for each of its nodes, inside its frame; and strips stand apart inside the page.
use Rattle.std.specs.Prelude.{◌≡◌, ◌≤◌, ◌<◌, ◌⊎◌, ℕ, ◌+◌, ◌-◌, max, Bool, false, List, length, map, Some, Ok, slice_get}
use Rattle.std.specs.List.{enumerate_from, flat_map}
use Rattle.fd_picture.specs.Marks.{mark_of}
use Rattle.fd_picture.specs.Drafts.{ReportView}
use Rattle.fd_picture.specs.Pages.{grid_of, page_height, page_width, panel_left, panel_top, table_top}
use Rattle.fd_picture.specs.Panels.{frame_width, marks_text, node_text}
use Rattle.fd_picture.specs.Reading.{report_of}
use Rattle.fd_picture.specs.Scales.{level, place, scale_of}
use Rattle.fd_picture.specs.Strips.{drawn, strips_of}
use Rattle.fd_picture.specs.Units.{is_far, span_of}
use Rattle.fd_picture.specs.declared.marks.Mark.{Mark}
use Rattle.fd_picture.specs.declared.page.Grid.{Grid}
use Rattle.fd_picture.specs.declared.report.Base.{Base}
use Rattle.fd_picture.specs.declared.report.Node.{Node}
use Rattle.fd_picture.specs.declared.report.Panel.{Panel}
use Rattle.fd_picture.specs.declared.scale.Scale.{Scale}
use Rattle.fd_picture.specs.declared.units.Span.{Span}

-- the mark of a node at a place of its panel
abbrev pub mark_at : List Base → Scale → ℕ → Node → Mark
mark_at bases scale place node = mark_of scale.axis scale.per_unit place node (span_of bases scale.per_unit node)

-- the marks of a panel: of each node with its place
abbrev pub marks_of : List Base → Scale → List Node → List Mark
marks_of bases scale nodes = map (λ p. mark_at bases scale p.0 p.1) (enumerate_from 0 nodes)

pub record MarksLaw : Type 0 where
  -- a panel has as many marks as nodes
  pub count : (bases : List Base) (scale : Scale) (nodes : List Node)
      → length (marks_of bases scale nodes) ≡ length nodes
  -- and its k-th mark is that of its k-th node
  pub each : (bases : List Base) (scale : Scale) (nodes : List Node) (k : ℕ) (node : Node)
      → slice_get nodes k ≡ Some node
      → slice_get (marks_of bases scale nodes) k ≡ Some (mark_at bases scale k node)
  -- which reaches from the level of the node's high down to that of its low, and is at least one unit high
  pub top : (axis span : Span) (per_unit : Bool) (k : ℕ) (node : Node)
      → (mark_of axis per_unit k node span).top ≡ level axis span.high
  pub height : (axis span : Span) (per_unit : Bool) (k : ℕ) (node : Node)
      → (mark_of axis per_unit k node span).height ≡ max (level axis span.low - level axis span.high) 1
  -- the text of the marks is that of each node with its place, and nothing else
  pub text : (bases : List Base) (per_unit : Bool) (axis : Span) (nodes : List Node)
      → marks_text bases per_unit axis nodes ≡ flat_map (λ p. node_text bases per_unit axis p.0 p.1) (enumerate_from 0 nodes)

-- both ends of a span stand within the 220 units of an axis, and low not above high
pub record StandsOnAxis (axis span : Span) : Type 0 where
  pub low : place axis span.low ≤ place axis span.high
  pub high : place axis span.high ≤ 220

-- an axis reaches over a span
pub record ReachesOver (axis span : Span) : Type 0 where
  pub low : axis.low ≤ span.low
  pub high : span.high ≤ axis.high

-- a mark stands within the frame of a strip of so many nodes: from 100 to the right, and from 26 to 266 down
pub record StandsInFrame (mark : Mark) (nodes : ℕ) : Type 0 where
  pub left : 100 ≤ mark.across - 9
  pub right : mark.across + 9 ≤ 100 + frame_width nodes
  pub top : 26 ≤ mark.top
  pub bottom : mark.top + mark.height ≤ 266

-- a strip ends where a later one begins or before: to the left of it, or above it
abbrev pub IsApart : Grid → ℕ → ℕ → Type 0
IsApart grid k l = (panel_left grid k + grid.width ≤ panel_left grid l) ⊎ (panel_top grid k + grid.height ≤ panel_top grid l)

-- the layout of a report's page, and its unit and axis
abbrev pub page_grid : ReportView → Grid
page_grid r = grid_of (drawn r.panels)

abbrev pub page_scale : ReportView → Scale
page_scale r = scale_of r.bases (drawn r.panels)

-- a node is the k-th of the j-th strip on the page of a report
pub record IsDrawn (r : ReportView) (j k : ℕ) (strip : Panel) (node : Node) : Type 0 where
  pub has_strip : slice_get (drawn r.panels) j ≡ Some strip
  pub has_node : slice_get strip.nodes k ≡ Some node

pub record FrameLaw : Type 0 where
  -- what is drawn of a panel are its nodes in order, in strips of at most 42
  pub nodes : (panel : Panel) → flat_map (λ (strip : Panel). strip.nodes) (strips_of panel) ≡ panel.nodes
  pub most : (r : ReportView) (j : ℕ) (strip : Panel) → slice_get (drawn r.panels) j ≡ Some strip
      → length strip.nodes ≤ 42
  -- in a report that is read no node's low is above its high
  pub order : (bytes : List ℕ) (r : ReportView) (j k : ℕ) (strip : Panel) (node : Node)
      → report_of bytes ≡ Ok r → IsDrawn r j k strip node → node.low ≤ node.high
  -- on the page's axis each node whose low isn't above its high stands from 0 to 220 units above the lower end
  pub axis : (r : ReportView) (j k : ℕ) (strip : Panel) (node : Node) → IsDrawn r j k strip node → node.low ≤ node.high
      → StandsOnAxis (page_scale r).axis (span_of r.bases (page_scale r).per_unit node)
  -- and the axis reaches over the interval of each that isn't far from one per unit, so that it stands at its own level
  pub reach : (r : ReportView) (j k : ℕ) (strip : Panel) (node : Node) → IsDrawn r j k strip node
      → is_far (page_scale r).per_unit (span_of r.bases (page_scale r).per_unit node) ≡ false
      → ReachesOver (page_scale r).axis (span_of r.bases (page_scale r).per_unit node)
  -- and its mark stands inside the strip's frame
  pub frame : (r : ReportView) (j k : ℕ) (strip : Panel) (node : Node) → IsDrawn r j k strip node → node.low ≤ node.high
      → StandsInFrame (mark_at r.bases (page_scale r) k node) (length strip.nodes)
  -- a strip's frame stands inside the strip
  pub strip : (r : ReportView) (j : ℕ) (strip : Panel) → slice_get (drawn r.panels) j ≡ Some strip
      → 100 + frame_width (length strip.nodes) ≤ (page_grid r).width
  -- strips don't overlap
  pub apart : (r : ReportView) (k l : ℕ) → k < l → IsApart (page_grid r) k l
  -- and stand inside the page, above its table
  pub across : (r : ReportView) (k : ℕ) → panel_left (page_grid r) k + (page_grid r).width ≤ page_width (page_grid r) r
  pub down : (r : ReportView) (k : ℕ) → k < length (drawn r.panels)
      → panel_top (page_grid r) k + (page_grid r).height ≤ table_top (page_grid r) (length (drawn r.panels))
  pub table : (r : ReportView) → table_top (page_grid r) (length (drawn r.panels)) ≤ page_height (page_grid r) r
