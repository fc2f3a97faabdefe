-- The page of a report.
use Rattle.std.specs.Prelude.{Bool, ℕ, ◌==◌, if◌then◌else◌, ◌+◌, ◌-◌, ◌*◌, ◌/◌, ◌%◌, min, max, List, [], ◌++◌, length, fold, Option, Some, None, codes, decimal}
use Rattle.fd_picture.specs.Drafts.{ReportView}
use Rattle.fd_picture.specs.Panels.{panel_text}
use Rattle.fd_picture.specs.Scales.{scale_of}
use Rattle.fd_picture.specs.Strips.{drawn}
use Rattle.fd_picture.specs.Texts.{attribute, escaped, numbered}
use Rattle.fd_picture.specs.declared.page.Grid.{Grid}
use Rattle.fd_picture.specs.declared.report.Base.{Base}
use Rattle.fd_picture.specs.declared.report.Entry.{Entry}
use Rattle.fd_picture.specs.declared.report.Kind.{Kind}
use Rattle.fd_picture.specs.declared.report.Kind.TheVariants as kind
use Rattle.fd_picture.specs.declared.report.Node.{Node}
use Rattle.fd_picture.specs.declared.report.Panel.{Panel}
use Rattle.fd_picture.specs.declared.scale.Scale.{Scale}

-- the most nodes of a strip, and at least seven
abbrev pub most_nodes : List Panel → ℕ
most_nodes panels = fold (λ most panel. max most (length panel.nodes)) 7 panels

abbrev pub longest_bus : List Node → ℕ
longest_bus nodes = fold (λ longest node. max longest (length node.bus)) 0 nodes

-- the bytes of the longest name of a bus, and at most 65,536
abbrev pub label_length : List Panel → ℕ
label_length panels = min (fold (λ longest panel. max longest (longest_bus panel.nodes)) 0 panels) 65_536

-- the size of a strip, and how many stand beside each other within the width of 1000
unfoldable pub grid_of : List Panel → Grid
grid_of panels = record {
  width = 110 + 20 * most_nodes panels;
  height = 310 + 8 * (label_length panels + 3);
  columns = max (1000 / (110 + 20 * most_nodes panels)) 1;
}

-- the place of the k-th strip on the page: row by row, from the left
abbrev pub panel_left : Grid → ℕ → ℕ
panel_left grid k = k % grid.columns * grid.width

abbrev pub panel_top : Grid → ℕ → ℕ
panel_top grid k = 100 + k / grid.columns * grid.height

unfoldable pub panel_at : List Base → Scale → Grid → ℕ → Panel → List ℕ
panel_at bases scale grid k panel =
    codes "<g transform='translate(" ++ decimal (panel_left grid k) ++ codes "," ++ decimal (panel_top grid k) ++ codes ")'>\n"
    ++ panel_text bases scale panel ++ codes "</g>\n"

unfoldable pub panels_text : List Base → Scale → Grid → List Panel → List ℕ
panels_text bases scale grid panels = numbered (λ k panel. panel_at bases scale grid k panel) 0 panels

-- where the table begins below so many strips
abbrev pub table_top : Grid → ℕ → ℕ
table_top grid panels = 100 + (panels + (grid.columns - 1)) / grid.columns * grid.height

abbrev pub kind_name : Kind → List ℕ
kind_name kind.Act = codes "act"
kind_name kind.Tap = codes "tap"
kind_name kind.Bank = codes "bank"

unfoldable pub cell_text : ℕ → List ℕ → List ℕ
cell_text across cell = codes "<tspan" ++ attribute (codes "x") across ++ codes ">" ++ escaped cell ++ codes "</tspan>"

unfoldable pub number_cell : ℕ → ℕ → List ℕ
number_cell across n = codes "<tspan" ++ attribute (codes "x") across ++ codes ">" ++ decimal n ++ codes "</tspan>"

unfoldable pub entry_text : ℕ → ℕ → Entry → List ℕ
entry_text top k entry =
    codes "<text class='row'" ++ attribute (codes "y") (top + 54 + 20 * k) ++ codes ">" ++ number_cell 20 entry.settle ++ number_cell 90 entry.hour
    ++ cell_text 160 (kind_name entry.kind) ++ cell_text 230 entry.time ++ cell_text 350 entry.steps ++ cell_text 420 entry.position
    ++ cell_text 600 entry.element ++ codes "</text>\n"

unfoldable pub entries_text : ℕ → List Entry → List ℕ
entries_text top entries = numbered (λ k entry. entry_text top k entry) 0 entries

-- the heads of the columns
unfoldable pub heads_text : ℕ → List ℕ
heads_text top =
    codes "<text class='head'" ++ attribute (codes "y") (top + 24)
    ++ codes "><tspan x='20'>settle</tspan><tspan x='90'>hour</tspan><tspan x='160'>record</tspan><tspan x='230'>time in s</tspan>"
    ++ codes "<tspan x='350'>steps</tspan><tspan x='420'>tap per unit, or bank</tspan><tspan x='600'>element</tspan></text>\n"

-- acts, taps and banks in the order of the report, if there are any
unfoldable pub table_text : ℕ → List Entry → List ℕ
table_text top entries = if length entries == 0 then [] else heads_text top ++ entries_text top entries

abbrev pub table_height : ℕ → ℕ
table_height entries = if entries == 0 then 0 else 40 + 20 * entries

-- the record of the fault that ends the report, if one does
unfoldable pub fault_text : ℕ → Option (List ℕ) → List ℕ
fault_text down None = []
fault_text down (Some line) =
    codes "<text class='fault' x='20'" ++ attribute (codes "y") down ++ codes ">The report ends with:" ++ escaped line ++ codes "</text>\n"

unfoldable pub view_text : ℕ → ℕ → List ℕ
view_text width height = decimal width ++ codes " " ++ decimal height ++ codes "'>\n"

unfoldable pub svg_text : ℕ → ℕ → List ℕ
svg_text width height =
    codes "<svg xmlns='http://www.w3.org/2000/svg'" ++ attribute (codes "width") width ++ attribute (codes "height") height
    ++ codes " viewBox='0 0 " ++ view_text width height

-- how the page's elements look
unfoldable pub style_text : List ℕ
style_text =
    codes "<style>text{font:14px sans-serif}.head{font-weight:bold}.title{font:bold 18px sans-serif}.round,.tick{font-size:12px}"
    ++ codes ".node,.row{font:13px monospace}.fault{font:bold 13px monospace}.tick,.node,.unit{text-anchor:end}path.tick{stroke:#bbb}"
    ++ codes "path.limit{stroke:#000;stroke-dasharray:6 4}.frame{fill:none;stroke:#000}.bar{fill:#000;fill-opacity:.5}</style>\n"

-- the shapes of marks, apart in black and white too, and what stands over those that aren't within the limits
unfoldable pub shapes_text : List ℕ
shapes_text =
    codes "<defs>\n<path id='triangle' d='M0 -7L7 5H-7Z' fill='#0072b2' stroke='#000'/>\n"
    ++ codes "<path id='square' d='M-5 -5H5V5H-5Z' fill='#fff' stroke='#d55e00' stroke-width='2.5'/>\n"
    ++ codes "<circle id='circle' r='6' fill='#009e73' stroke='#000'/>\n"
    ++ codes "<path id='diamond' d='M0 -7L6 0L0 7L-6 0Z' fill='#fff' stroke='#000' stroke-width='2'/>\n"
    ++ codes "<circle id='outside' r='10' fill='none' stroke='#000' stroke-width='2'/>\n"
    ++ codes "<circle id='across' r='10' fill='none' stroke='#000' stroke-width='2' stroke-dasharray='4 4'/>\n"
    ++ codes "<path id='far' d='M-9 -9L9 9M-9 9L9 -9' stroke='#000' stroke-width='2'/>\n</defs>\n"

-- the heading of the page, and the legend of the shapes and the bar
unfoldable pub heading_text : List ℕ
heading_text =
    codes "<rect width='100%' height='100%' fill='#fff'/>\n"
    ++ codes "<text class='title' x='20' y='30'>Voltage magnitudes to ground, in the last round of each hour</text>\n"
    ++ codes "<use href='#triangle' x='28' y='53'/><text x='44' y='58'>node 1</text>\n"
    ++ codes "<use href='#square' x='128' y='53'/><text x='144' y='58'>node 2</text>\n"
    ++ codes "<use href='#circle' x='228' y='53'/><text x='244' y='58'>node 3</text>\n"
    ++ codes "<use href='#diamond' x='328' y='53'/><text x='344' y='58'>another node</text>\n"
    ++ codes "<rect class='bar' x='460' y='49' width='18' height='8'/><text x='486' y='58'>from low to high, at least a line</text>\n"

-- the legend of the limits and of what isn't within them, or that nothing is judged
unfoldable pub limits_text : Bool → List ℕ
limits_text per_unit =
    if per_unit then codes "<path class='limit' d='M18 77h26'/><text x='52' y='82'>limits of 0.95 and 1.05 per unit</text>\n"
    ++ codes "<use href='#outside' x='292' y='77'/><text x='310' y='82'>surely outside</text>\n"
    ++ codes "<use href='#across' x='432' y='77'/><text x='450' y='82'>across a limit</text>\n"
    ++ codes "<use href='#far' x='570' y='77'/><text x='588' y='82'>below 0.5 or above 1.4, as in a delta: off the axis, not judged</text>\n"
    else codes "<text x='20' y='82'>not every node has a voltage base: in volts, and no limits are judged</text>\n"

-- what is the same on each page of a unit
unfoldable pub legend_text : Bool → List ℕ
legend_text per_unit = style_text ++ shapes_text ++ heading_text ++ limits_text per_unit

-- where the last line stands below the table
abbrev pub last_line : Grid → ReportView → ℕ
last_line grid r = table_top grid (length (drawn r.panels)) + 24 + table_height (length r.entries)

abbrev pub longest_element : List Entry → ℕ
longest_element entries = fold (λ longest entry. max longest (length entry.element)) 0 entries

abbrev pub fault_length : Option (List ℕ) → ℕ
fault_length None = 0
fault_length (Some line) = length line

-- the size of a page: as wide as a row of strips, 1000, the table with its longest name, and the line of the fault
abbrev pub page_width : Grid → ReportView → ℕ
page_width grid r = max (max grid.width 1000) (max (600 + 8 * longest_element r.entries) (200 + 8 * fault_length r.fault)) + 30

abbrev pub page_height : Grid → ReportView → ℕ
page_height grid r = last_line grid r + 40

-- the page of a report
unfoldable pub page_of : ReportView → List ℕ
page_of r =
    let strips = drawn r.panels in
    let grid = grid_of strips in
    let scale = scale_of r.bases strips in
    svg_text (page_width grid r) (page_height grid r) ++ legend_text scale.per_unit ++ panels_text r.bases scale grid strips
    ++ table_text (table_top grid (length strips)) r.entries ++ fault_text (last_line grid r) r.fault ++ codes "</svg>\n"
