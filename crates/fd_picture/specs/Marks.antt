-- The marks of a panel: one for each node.
use Rattle.std.specs.Prelude.{ℕ, ◌+◌, ◌-◌, ◌*◌, ◌==◌, ◌||◌, nat_lt, max, Bool, not, if◌then◌else◌}
use Rattle.fd_picture.specs.Scales.{level}
use Rattle.fd_picture.specs.Units.{is_far}
use Rattle.fd_picture.specs.declared.marks.Judgement.{Judgement}
use Rattle.fd_picture.specs.declared.marks.Judgement.TheVariants as judgement
use Rattle.fd_picture.specs.declared.marks.Mark.{Mark}
use Rattle.fd_picture.specs.declared.marks.Shape.{Shape}
use Rattle.fd_picture.specs.declared.marks.Shape.TheVariants as shape
use Rattle.fd_picture.specs.declared.report.Node.{Node}
use Rattle.fd_picture.specs.declared.units.Span.{Span}

-- the phases are told apart by shapes
abbrev pub shape_of : ℕ → Shape
shape_of number = if number == 1 then shape.Triangle else if number == 2 then shape.Square else if number == 3 then shape.Circle else shape.Diamond

-- a node against the limits of 0.95 and 1.05 per unit: outside where no value of its interval is within them, and across
-- a limit where some are and some aren't. In volts, and far from one per unit, it isn't judged
abbrev pub judgement_of : Bool → Span → Judgement
judgement_of per_unit span =
    if not per_unit then judgement.InVolts
    else if is_far per_unit span then judgement.Far
    else if nat_lt span.high 950_000 || nat_lt 1_050_000 span.low then judgement.Outside
    else if nat_lt span.low 950_000 || nat_lt 1_050_000 span.high then judgement.Across
    else judgement.Within

-- the mark of the node at a place of its panel: from the level of its high down to that of its low, and at least one unit high
unfoldable pub mark_of : Span → Bool → ℕ → Node → Span → Mark
mark_of axis per_unit place node span = record {
  across = 110 + 20 * place;
  top = level axis span.high;
  height = max (level axis span.low - level axis span.high) 1;
  shape = shape_of node.number;
  judgement = judgement_of per_unit span;
}
