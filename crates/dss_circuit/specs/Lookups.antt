-- Elements by the names that properties give.
use Rattle.std.specs.Prelude.{ℕ, List, Option, Some, None}
use Rattle.std.specs.Map.{lookup}
use Rattle.dss_model.specs.declared.element.Element.{Element}
use Rattle.dss_model.specs.declared.names.Class.{Class}
use Rattle.dss_model.specs.SameElement.{same_element}
use Rattle.dss_circuit.specs.Circuit.{Elements}

-- the element of a class that a property names, where it is given and there
abbrev pub element_given : Elements → Class → Option (List ℕ) → Option Element
element_given elements class None = None
element_given elements class (Some name) = lookup (same_element (record { class = class; name = name })) elements
