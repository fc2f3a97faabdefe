-- What elements name of one another.
use Rattle.std.specs.Prelude.{ℕ, ◌==◌, ◌&&◌, Bool, false, List, Option, Some, None}
use Rattle.std.specs.List.{list_any}
use Rattle.dss_circuit.specs.dss_lexer.Texts.{text_eq}
use Rattle.dss_circuit.specs.dss_model.declared.element.Element.{Element}
use Rattle.dss_circuit.specs.dss_model.declared.element.Element.TheVariants as the
use Rattle.dss_circuit.specs.Circuit.{Elements}

-- a property gives this name
abbrev pub gives_name : List ℕ → Option (List ℕ) → Bool
gives_name name None = false
gives_name name (Some given) = text_eq given name

-- a control of this winding of the Transformer of this name
abbrev pub controls_winding : List ℕ → ℕ → Element → Bool
controls_winding transformer winding (the.RegControl control) = gives_name transformer control.transformer && (control.winding == winding)
controls_winding transformer winding other = false

-- a control of the Capacitor of this name
abbrev pub controls_bank : List ℕ → Element → Bool
controls_bank capacitor (the.CapControl control) = gives_name capacitor control.capacitor
controls_bank capacitor other = false

-- a Load that follows the Loadshape of this name
abbrev pub follows_shape : List ℕ → Element → Bool
follows_shape shape (the.Load load) = gives_name shape load.daily
follows_shape shape other = false

-- some of these elements controls the winding
abbrev pub is_winding_controlled : Elements → List ℕ → ℕ → Bool
is_winding_controlled elements transformer winding = list_any (λ entry. controls_winding transformer winding entry.1) elements

-- some of these elements controls the bank
abbrev pub is_bank_controlled : Elements → List ℕ → Bool
is_bank_controlled elements capacitor = list_any (λ entry. controls_bank capacitor entry.1) elements

-- some Load among these elements names the shape
abbrev pub is_shape_followed : Elements → List ℕ → Bool
is_shape_followed elements shape = list_any (λ entry. follows_shape shape entry.1) elements

-- a second control of a winding, where these stand before it
abbrev pub is_second_of_winding : Elements → Option (List ℕ) → ℕ → Bool
is_second_of_winding before None winding = false
is_second_of_winding before (Some transformer) winding = is_winding_controlled before transformer winding

-- a second control of a bank, where these stand before it
abbrev pub is_second_of_bank : Elements → Option (List ℕ) → Bool
is_second_of_bank before None = false
is_second_of_bank before (Some capacitor) = is_bank_controlled before capacitor

-- a second control of the same winding or of the same bank, where these elements stand before it
abbrev pub is_second_control : Elements → Element → Bool
is_second_control before (the.RegControl control) = is_second_of_winding before control.transformer control.winding
is_second_control before (the.CapControl control) = is_second_of_bank before control.capacitor
is_second_control before other = false
