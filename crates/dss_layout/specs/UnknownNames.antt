-- The names of the unknowns: `671.1 re`, `line.650632 2 im`, `load.692 1 mag`.
use Rattle.std.specs.Prelude.{ℕ, ◌-◌, ◌*◌, ◌/◌, ◌%◌, ◌==◌, nat_lt, List, ◌∷◌, ◌++◌, length, codes, slice_get, Option, if◌then◌else◌}
use Rattle.std.specs.Option.{option_map}
use Rattle.std.specs.Str.{chars}
use Rattle.std.specs.Fmt.{decimal}
use Rattle.dss_model.specs.declared.names.ElementName.{ElementName}
use Rattle.dss_model.specs.Classes.{class_word}
use Rattle.dss_layout.specs.declared.nodes.NodeName.{NodeName}
use Rattle.dss_layout.specs.declared.nodes.PhaseName.{PhaseName}
use Rattle.dss_layout.specs.Layout.{LayoutView, complex_count}

-- bus and number, parted by a dot
abbrev pub node_text : NodeName → List ℕ
node_text node = node.bus ++ 46 ∷ decimal node.number

-- class and name, parted by a dot
abbrev pub element_text : ElementName → List ℕ
element_text element = chars (class_word element.class) ++ 46 ∷ element.name

-- an element, and the phase after a blank
abbrev pub phase_text : PhaseName → List ℕ
phase_text phase = element_text phase.element ++ 32 ∷ decimal phase.phase

-- the real part of a complex unknown has an even place, and the imaginary part the odd one after it
abbrev pub part_word : ℕ → List ℕ
part_word place = if place % 2 == 0 then codes " re" else codes " im"

-- the name of a complex unknown: a node or a branch phase
abbrev pub complex_name : LayoutView → ℕ → Option (List ℕ)
complex_name layout k =
    if nat_lt k (length layout.nodes) then option_map node_text (slice_get layout.nodes k)
    else option_map phase_text (slice_get layout.branches (k - length layout.nodes))

-- the name of the real unknown at a place
abbrev pub unknown_name : LayoutView → ℕ → Option (List ℕ)
unknown_name layout place =
    if nat_lt place (2 * complex_count layout)
    then option_map (λ t. t ++ chars (part_word place)) (complex_name layout (place / 2))
    else option_map (λ p. phase_text p ++ chars (codes " mag")) (slice_get layout.magnitudes (place - 2 * complex_count layout))
