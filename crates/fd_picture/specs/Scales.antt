-- The axis of a page, and the place of a voltage on it.
use Rattle.std.specs.Int.{div_ceil}
use Rattle.std.specs.Prelude.{ℕ, zero, suc, ◌+◌, ◌-◌, ◌*◌, ◌/◌, ◌^◌, ◌==◌, nat_lt, nat_le, min, max, Bool, List, fold, Option, Some, None, unwrap_or, if◌then◌else◌}
use Rattle.fd_picture.specs.Units.{is_far, is_per_unit, span_of}
use Rattle.fd_picture.specs.declared.report.Base.{Base}
use Rattle.fd_picture.specs.declared.report.Node.{Node}
use Rattle.fd_picture.specs.declared.report.Panel.{Panel}
use Rattle.fd_picture.specs.declared.scale.Scale.{Scale}
use Rattle.fd_picture.specs.declared.units.Span.{Span}

abbrev pub widened : Option Span → Span → Span
widened None span = span
widened (Some axis) span = record { low = min axis.low span.low; high = max axis.high span.high }

-- an axis that holds a span too, unless that is far from one per unit
abbrev pub widened_near : Bool → Option Span → Span → Option Span
widened_near per_unit axis span = if is_far per_unit span then axis else Some (widened axis span)

-- from the least low to the greatest high of an axis and those of these nodes that aren't far from one per unit
unfoldable pub widened_by : List Base → Bool → Option Span → List Node → Option Span
widened_by bases per_unit axis nodes = fold (λ axis node. widened_near per_unit axis (span_of bases per_unit node)) axis nodes

-- the axis where no node gives one: between the limits, or at 0 V
abbrev pub bare_axis : Bool → Span
bare_axis per_unit = if per_unit then record { low = 950_000; high = 1_050_000 } else record { low = 0; high = 0 }

-- from the least low to the greatest high of all nodes of a page that aren't far from one per unit
unfoldable pub axis_of : List Base → Bool → List Panel → Span
axis_of bases per_unit panels = unwrap_or (fold (λ axis panel. widened_by bases per_unit axis panel.nodes) None panels) (bare_axis per_unit)

-- the unit and the axis of a page, which are those of each panel
unfoldable pub scale_of : List Base → List Panel → Scale
scale_of bases panels = let per_unit = is_per_unit bases panels in record { per_unit = per_unit; axis = axis_of bases per_unit panels }

-- how far above the low end of an axis a voltage stands, where the axis is 220 units of the page high: rounded down, once.
-- What is off the axis stands at its end
unfoldable pub place : Span → ℕ → ℕ
place axis value = min ((value - axis.low) * 220 / max (axis.high - axis.low) 1) 220

-- where it stands below the top of its panel
abbrev pub level : Span → ℕ → ℕ
level axis value = 256 - place axis value

-- the least of one, two and five times a power of ten that is above a fifth of a range, if one is
abbrev pub step_in : ℕ → ℕ → Option ℕ
step_in decade range =
    if nat_lt (range / 5) (10 ^ decade) then Some (10 ^ decade)
    else if nat_lt (range / 5) (10 ^ decade * 2) then Some (10 ^ decade * 2)
    else if nat_lt (range / 5) (10 ^ decade * 5) then Some (10 ^ decade * 5)
    else None

abbrev pub step_or : Option ℕ → ℕ → ℕ
step_or None next = next
step_or (Some step) next = step

-- the same from a power on, of so many powers
abbrev pub step_from : ℕ → ℕ → ℕ → ℕ
step_from zero decade range = 10_000_000_000_000_000_000
step_from (suc more) decade range = step_or (step_in decade range) (step_from more (decade + 1) range)

-- the distance of the lines of an axis over a range
unfoldable pub step_for : ℕ → ℕ
step_for range = step_from 19 0 range

-- the k-th multiple of a step from the low end of an axis on, where it is within the axis
unfoldable pub tick_value : Span → ℕ → ℕ → Option ℕ
tick_value axis step k =
    if step == 0 then None
    else if nat_le ((div_ceil axis.low step + k) * step) axis.high then Some ((div_ceil axis.low step + k) * step)
    else None
