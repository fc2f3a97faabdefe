-- A step that follows an answer, and an element that is looked up.
use Rattle.std.proofs.Common.{◌≡◌, ◌∙◌, Some, Result, Ok, Err, refl, ap}
use Rattle.std.specs.Map.{lookup}
use Rattle.dss_circuit.specs.dss_model.declared.fault.ModelFault.{ModelFault}
use Rattle.dss_circuit.specs.dss_model.declared.element.Element.{Element}
use Rattle.dss_circuit.specs.dss_model.declared.names.ElementName.{ElementName}
use Rattle.dss_circuit.specs.dss_model.Answers.{◌>>=◌}
use Rattle.dss_circuit.specs.dss_model.SameElement.{same_element}
use Rattle.dss_circuit.specs.Circuit.{Elements}

pub record Through {A B : Type 0} (r : Result A ModelFault) (f : A → Result B ModelFault) (b : B) : Type 0 where
  pub value : A
  pub first : r ≡ Ok value
  pub next : f value ≡ Ok b

pub through : {A B : Type 0} (r : Result A ModelFault) (f : A → Result B ModelFault) (b : B) → (r >>= f) ≡ Ok b
    → Through r f b
through (Ok a) f b h = record { value = a; first = refl; next = h }
through (Err e) f b h = cc h

-- what is found among the elements that a circuit hands out is found in the circuit
pub found_in : (name : ElementName) (handed elements : Elements) (e : Element)
    → Some e ≡ lookup (same_element name) handed → handed ≡ elements → Some e ≡ lookup (same_element name) elements
found_in name handed elements e found same = found ∙ ap (lookup (same_element name)) same
