-- The voltages of nodes, in the unit of their page.
use Rattle.std.specs.Prelude.{ℕ, ◌+◌, ◌-◌, ◌*◌, ◌/◌, ◌^◌, ◌==◌, ◌&&◌, ◌||◌, nat_lt, Bool, List, Option, Some, None, is_some, unwrap_or, if◌then◌else◌}
use Rattle.std.specs.List.{list_all}
use Rattle.fd_exact.specs.RootThree.{root_three}
use Rattle.fd_picture.specs.Bases.{base_of}
use Rattle.fd_picture.specs.declared.report.Base.{Base}
use Rattle.fd_picture.specs.declared.report.Node.{Node}
use Rattle.fd_picture.specs.declared.report.Panel.{Panel}
use Rattle.fd_picture.specs.declared.units.Span.{Span}

-- a base of so many 10^-6 kV is between phases, and one per unit to ground is that over root three. So v microvolts are
-- v root three 10^3 / base millionths: v root_three over this
abbrev pub micro_base : ℕ → ℕ
micro_base base = base * 1_000_000_000_000

abbrev pub span_in_range : ℕ → ℕ → Option Span
span_in_range low high = if nat_lt low (2 ^ 64) && nat_lt high (2 ^ 64) then Some (record { low = low; high = high }) else None

-- low rounded down and high rounded up, in millionths of a base; none where they pass 2^64
unfoldable pub per_unit_span : ℕ → Node → Option Span
per_unit_span base node =
    if micro_base base == 0 then None
    else span_in_range (node.low * root_three / micro_base base) ((node.high * root_three + (micro_base base - 1)) / micro_base base)

abbrev pub per_unit_by : Option ℕ → Node → Option Span
per_unit_by None node = None
per_unit_by (Some base) node = per_unit_span base node

-- a node per unit of the base of its own bus
abbrev pub per_unit_at : List Base → Node → Option Span
per_unit_at bases node = per_unit_by (base_of bases node.bus) node

-- each of these nodes has a base
unfoldable pub have_bases : List Base → List Node → Bool
have_bases bases nodes = list_all (λ node. is_some (per_unit_at bases node)) nodes

-- a page is per unit where each node of its panels has a base
unfoldable pub is_per_unit : List Base → List Panel → Bool
is_per_unit bases panels = list_all (λ panel. have_bases bases panel.nodes) panels

abbrev pub volts_span : Node → Span
volts_span node = record { low = node.low; high = node.high }

-- the voltage of a node, in millionths of its base to ground, or else in microvolts
unfoldable pub span_of : List Base → Bool → Node → Span
span_of bases per_unit node = if per_unit then unwrap_or (per_unit_at bases node) (volts_span node) else volts_span node

-- surely below 0.5 or above 1.4 per unit, as in a delta with a grounded corner. A phase of a grounded wye is as low only
-- where it has all but collapsed, and never as high: under an earth fault the others keep below 0.8 of the voltage between
-- phases, which is 1.39 per unit
abbrev pub is_far : Bool → Span → Bool
is_far per_unit span = per_unit && (nat_lt span.high 500_000 || nat_lt 1_400_000 span.low)
