-- What the elements of every circuit are.
use Rattle.std.specs.Prelude.{◌≡◌, ℕ, List, [], ◌∷◌, All, IsTrue, map, Option, IsSome, OnSome}
use Rattle.std.specs.List.{IsDistinct}
use Rattle.dss_model.specs.Names.{is_name, lower}
use Rattle.dss_model.specs.declared.element.Element.{Element}
use Rattle.dss_model.specs.declared.element.Element.TheVariants as the
use Rattle.dss_model.specs.declared.names.Class.{Class}
use Rattle.dss_model.specs.declared.names.Class.TheVariants as class
use Rattle.dss_model.specs.declared.names.ElementName.{ElementName}
use Rattle.dss_model.specs.Element.{class_of}
use Rattle.dss_model.specs.SameElement.{same_element}
use Rattle.dss_circuit.specs.Circuit.{Elements, source_name}
use Rattle.dss_circuit.specs.Lookups.{element_given}

-- a name of allowed characters, in lower case
pub record IsKey (name : ElementName) : Type 0 where
  pub legal : IsTrue (is_name name.name)
  pub in_lower_case : lower name.name ≡ name.name

-- an element stands under such a name, with its own class
pub record IsEntry (entry : ElementName × Element) : Type 0 where
  pub key : IsKey entry.0
  pub class : entry.0.class ≡ class_of entry.1

-- where there is an element, the first is the source that New Circuit makes
abbrev pub BeginsWithSource : Elements → Type 0
BeginsWithSource [] = Unit {0}
BeginsWithSource (entry ∷ entries) = entry.0 ≡ source_name

-- where a name is given, the element of the class that its property names is in the circuit
abbrev pub IsThere : Elements → Class → Option (List ℕ) → Type 0
IsThere elements class given = OnSome given (IsSome (element_given elements class given))

-- so is each element that one names
abbrev pub NamesAreThere : Elements → Element → Type 0
NamesAreThere elements (the.Line line) = IsThere elements class.Linecode line.linecode
NamesAreThere elements (the.Load load) = IsThere elements class.Loadshape load.daily
NamesAreThere elements (the.RegControl control) = IsThere elements class.Transformer control.transformer
NamesAreThere elements (the.CapControl control) = IsThere elements class.Line control.element × IsThere elements class.Capacitor control.capacitor
NamesAreThere elements (the.Vsource source) = Unit {0}
NamesAreThere elements (the.Linecode code) = Unit {0}
NamesAreThere elements (the.Transformer xfmr) = Unit {0}
NamesAreThere elements (the.Capacitor bank) = Unit {0}
NamesAreThere elements (the.Loadshape shape) = Unit {0}

abbrev pub AllNamesAreThere : Elements → Type 0
AllNamesAreThere elements = All (λ entry. NamesAreThere elements entry.1) elements

pub record AreWellFormed (elements : Elements) : Type 0 where
  -- no two are the same
  pub distinct : IsDistinct same_element (map (λ entry. entry.0) elements)
  pub entries : All IsEntry elements
  pub source : BeginsWithSource elements
  pub named : AllNamesAreThere elements
