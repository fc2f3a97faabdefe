-- The text of a panel. Places are in units of the page from the panel's own top left.
use Rattle.std.specs.Prelude.{ℕ, ◌+◌, ◌-◌, ◌*◌, ◌/◌, ◌%◌, ◌==◌, ◌&&◌, nat_le, max, Bool, List, [], ◌++◌, length, Option, Some, None, if◌then◌else◌, codes, decimal}
use Rattle.fd_decimal.specs.Decimals.{fixed_text, size_text}
use Rattle.fd_picture.specs.Marks.{mark_of}
use Rattle.fd_picture.specs.Scales.{level, step_for, tick_value}
use Rattle.fd_picture.specs.Texts.{attribute, between, escaped, numbered}
use Rattle.fd_picture.specs.Units.{span_of}
use Rattle.fd_picture.specs.declared.marks.Judgement.{Judgement}
use Rattle.fd_picture.specs.declared.marks.Judgement.TheVariants as judgement
use Rattle.fd_picture.specs.declared.marks.Mark.{Mark}
use Rattle.fd_picture.specs.declared.marks.Shape.{Shape}
use Rattle.fd_picture.specs.declared.marks.Shape.TheVariants as shape
use Rattle.fd_picture.specs.declared.report.Base.{Base}
use Rattle.fd_picture.specs.declared.report.Node.{Node}
use Rattle.fd_picture.specs.declared.report.Panel.{Panel}
use Rattle.fd_picture.specs.declared.scale.Scale.{Scale}
use Rattle.fd_picture.specs.declared.units.Span.{Span}

-- BUS.NODE
abbrev pub node_name : Node → List ℕ
node_name node = escaped node.bus ++ codes "." ++ decimal node.number

unfoldable pub per_unit_text : Bool → Span → List ℕ
per_unit_text per_unit span = if per_unit then codes ", " ++ size_text span.low ++ codes " to " ++ size_text span.high ++ codes " per unit" else []

-- a node with its low, its high and the width between them in volts, and both ends per unit where its page is
unfoldable pub title_text : Node → Bool → Span → List ℕ
title_text node per_unit span =
    codes "<title>" ++ node_name node ++ codes ": " ++ size_text node.low ++ codes " to " ++ size_text node.high
    ++ codes " V, width " ++ size_text (node.high - node.low) ++ codes " V" ++ per_unit_text per_unit span ++ codes "</title>"

abbrev pub shape_name : Shape → List ℕ
shape_name shape.Triangle = codes "triangle"
shape_name shape.Square = codes "square"
shape_name shape.Circle = codes "circle"
shape_name shape.Diamond = codes "diamond"

-- the attributes of a place, and the end of the element
unfoldable pub place_text : ℕ → ℕ → List ℕ
place_text across down = attribute (codes "x") across ++ attribute (codes "y") down ++ codes "/>"

-- a shape at a place
unfoldable pub shape_text : List ℕ → ℕ → ℕ → List ℕ
shape_text name across down = codes "<use href='#" ++ name ++ codes "'" ++ place_text across down

-- over the mark of a node that isn't judged to be within the limits: a ring, a broken ring, or a cross
unfoldable pub judgement_text : Judgement → ℕ → ℕ → List ℕ
judgement_text judgement.Outside across down = shape_text (codes "outside") across down
judgement_text judgement.Across across down = shape_text (codes "across") across down
judgement_text judgement.Far across down = shape_text (codes "far") across down
judgement_text judgement.Within across down = []
judgement_text judgement.InVolts across down = []

-- the interval: from the level of the high down, as high as the mark
unfoldable pub bar_text : Mark → List ℕ
bar_text mark =
    codes "<rect class='bar' width='18'" ++ attribute (codes "x") (mark.across - 9) ++ attribute (codes "y") mark.top
    ++ attribute (codes "height") mark.height ++ codes "/>"

-- a mark: one element, with the title, the interval, and in its middle the shape and how it is judged
unfoldable pub mark_text : Mark → Node → Bool → Span → List ℕ
mark_text mark node per_unit span =
    codes "<g class='mark'>" ++ title_text node per_unit span ++ bar_text mark
    ++ shape_text (shape_name mark.shape) mark.across (mark.top + mark.height / 2)
    ++ judgement_text mark.judgement mark.across (mark.top + mark.height / 2) ++ codes "</g>\n"

-- the name of a node below its mark, from the bottom up
unfoldable pub label_text : ℕ → Node → List ℕ
label_text across node =
    codes "<text class='node' transform='translate(" ++ decimal (across + 4) ++ codes ",278)rotate(-90)'>" ++ node_name node ++ codes "</text>\n"

-- a node at a place of its panel: its mark and its name
abbrev pub node_text : List Base → Bool → Span → ℕ → Node → List ℕ
node_text bases per_unit axis place node =
    let span = span_of bases per_unit node in
    let mark = mark_of axis per_unit place node span in
    mark_text mark node per_unit span ++ label_text mark.across node

unfoldable pub marks_text : List Base → Bool → Span → List Node → List ℕ
marks_text bases per_unit axis nodes = numbered (λ place node. node_text bases per_unit axis place node) 0 nodes

-- ---- the axis

-- the number at a line, in units of 10^-6, with as few decimals as the distance of the lines needs: none, three or six
unfoldable pub level_text : ℕ → ℕ → List ℕ
level_text step value =
    if step % 1_000_000 == 0 then decimal (value / 1_000_000)
    else if step % 1000 == 0 then fixed_text 3 (value / 1000)
    else fixed_text 6 value

abbrev pub unit_name : Bool → List ℕ
unit_name per_unit = if per_unit then codes "per unit" else codes "V"

-- a line across a panel
unfoldable pub line_text : List ℕ → ℕ → ℕ → List ℕ
line_text class width down = codes "<path class='" ++ class ++ codes "' d='M100 " ++ decimal down ++ codes "h" ++ decimal width ++ codes "'/>\n"

-- a line of the axis, with its number to the left
unfoldable pub tick_text : Span → ℕ → ℕ → ℕ → List ℕ
tick_text axis step width value =
    line_text (codes "tick") width (level axis value) ++ codes "<text class='tick' x='94'" ++ attribute (codes "y") (level axis value + 5) ++ codes ">"
    ++ level_text step value ++ codes "</text>\n"

abbrev pub tick_or_none : Span → ℕ → ℕ → Option ℕ → List ℕ
tick_or_none axis step width None = []
tick_or_none axis step width (Some value) = tick_text axis step width value

-- the line at the k-th multiple of the step from the low end of the axis on, where it is within the axis
unfoldable pub tick_within : Span → ℕ → ℕ → ℕ → List ℕ
tick_within axis step width k = tick_or_none axis step width (tick_value axis step k)

-- the lines of the axis: the first seven multiples of the step within it. The step is above a fifth of the axis, so
-- there are no more
abbrev pub ticks_text : Span → ℕ → ℕ → List ℕ
ticks_text axis step width =
    tick_within axis step width 0 ++ tick_within axis step width 1 ++ tick_within axis step width 2 ++ tick_within axis step width 3
    ++ tick_within axis step width 4 ++ tick_within axis step width 5 ++ tick_within axis step width 6

-- a line at a limit, where the axis passes it
unfoldable pub limit_text : Span → Bool → ℕ → ℕ → List ℕ
limit_text axis per_unit width limit =
    if per_unit && nat_le axis.low limit && nat_le limit axis.high then line_text (codes "limit") width (level axis limit) else []

-- the unit of the axis, and the panel's frame
unfoldable pub frame_text : Bool → ℕ → List ℕ
frame_text per_unit width =
    codes "<text class='unit' x='94' y='18'>" ++ unit_name per_unit ++ codes "</text>\n<text x='4' y='290'>bus.node</text>\n"
    ++ codes "<rect class='frame' x='100' y='26' height='240'" ++ attribute (codes "width") width ++ codes "/>\n"

unfoldable pub axis_text : Bool → Span → ℕ → List ℕ
axis_text per_unit axis width =
    frame_text per_unit width ++ ticks_text axis (step_for (axis.high - axis.low)) width
    ++ limit_text axis per_unit width 950_000 ++ limit_text axis per_unit width 1_050_000

-- ---- the panel

unfoldable pub head_text : Panel → List ℕ
head_text panel =
    between (codes "<text class='round' x='104' y='18'>settle ") panel.settle (codes ", hour ")
    ++ between [] panel.hour (codes ", round ") ++ between [] panel.round (codes "</text>\n")

-- the width of the frame of so many nodes, and of at least seven
abbrev pub frame_width : ℕ → ℕ
frame_width nodes = 20 * max nodes 7

unfoldable pub panel_text : List Base → Scale → Panel → List ℕ
panel_text bases scale panel =
    head_text panel ++ axis_text scale.per_unit scale.axis (frame_width (length panel.nodes)) ++ marks_text bases scale.per_unit scale.axis panel.nodes
