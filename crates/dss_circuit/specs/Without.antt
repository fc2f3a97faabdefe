-- Elements without those of one class.
use Rattle.std.specs.Prelude.{◌≢◌, ◌⊎◌, ◌≡◌, ◌==◌, Bool, All, OnSome, filter, not}
use Rattle.dss_model.specs.declared.element.Element.{Element}
use Rattle.dss_model.specs.declared.element.Element.TheVariants as the
use Rattle.dss_model.specs.declared.names.Class.{Class}
use Rattle.dss_model.specs.declared.names.Class.TheVariants as class
use Rattle.dss_model.specs.declared.names.ElementName.{ElementName}
use Rattle.dss_model.specs.SameElement.{class_number}
use Rattle.dss_circuit.specs.Circuit.{Elements}

-- an element of another class
abbrev pub is_of_other : Class → ElementName × Element → Bool
is_of_other dropped entry = not (class_number entry.0.class == class_number dropped)

-- the elements of other classes, in their order
abbrev pub without : Class → Elements → Elements
without dropped elements = filter (is_of_other dropped) elements

-- no property of an element names one of this class
abbrev pub NamesNone : Class → Element → Type 0
NamesNone dropped (the.Line line) = OnSome line.linecode (dropped ≢ class.Linecode)
NamesNone dropped (the.Load load) = OnSome load.daily (dropped ≢ class.Loadshape)
NamesNone dropped (the.RegControl control) = OnSome control.transformer (dropped ≢ class.Transformer)
NamesNone dropped (the.CapControl control) = OnSome control.element (dropped ≢ class.Line) × OnSome control.capacitor (dropped ≢ class.Capacitor)
NamesNone dropped (the.Vsource source) = Unit {0}
NamesNone dropped (the.Linecode code) = Unit {0}
NamesNone dropped (the.Transformer xfmr) = Unit {0}
NamesNone dropped (the.Capacitor bank) = Unit {0}
NamesNone dropped (the.Loadshape shape) = Unit {0}

-- no element of another class names one of this class
abbrev pub OthersNameNone : Class → Elements → Type 0
OthersNameNone dropped elements = All (λ entry. (entry.0.class ≡ dropped) ⊎ NamesNone dropped entry.1) elements
