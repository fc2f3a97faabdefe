-- What elements name of one another, as it is noted element by element.
use Rattle.std.specs.Prelude.{◌≡◌, ℕ, ◌==◌, ◌&&◌, ◌||◌, Bool, List}
use Rattle.std.specs.List.{list_any}
use Rattle.dss_circuit.specs.dss_lexer.Texts.{text_eq}
use Rattle.dss_circuit.specs.dss_model.declared.element.Element.{Element}
use Rattle.dss_circuit.specs.Circuit.{Elements}
use Rattle.dss_ready.specs.declared.mention.WindingName.{WindingName}
use Rattle.dss_ready.specs.Mentions.{controls_winding, controls_bank, follows_shape, is_winding_controlled, is_bank_controlled, is_shape_followed}

-- the windings and the banks that are noted as controlled, and the shapes that are noted as
-- followed, in any order
pub record Noted : Type 0 where
  pub windings : List WindingName
  pub banks : List (List ℕ)
  pub shapes : List (List ℕ)

-- the same Transformer and the same winding
abbrev pub same_winding : WindingName → WindingName → Bool
same_winding a b = text_eq a.transformer b.transformer && (a.winding == b.winding)

abbrev pub is_among : List WindingName → WindingName → Bool
is_among windings w = list_any (same_winding w) windings

abbrev pub has_winding : Noted → List ℕ → ℕ → Bool
has_winding noted transformer winding = is_among noted.windings (record { transformer = transformer; winding = winding })

abbrev pub has_bank : Noted → List ℕ → Bool
has_bank noted capacitor = list_any (text_eq capacitor) noted.banks

abbrev pub has_shape : Noted → List ℕ → Bool
has_shape noted shape = list_any (text_eq shape) noted.shapes

-- noted is just what these elements name
pub record Notes (noted : Noted) (elements : Elements) : Type 0 where
  pub windings : (transformer : List ℕ) (winding : ℕ)
      → has_winding noted transformer winding ≡ is_winding_controlled elements transformer winding
  pub banks : (capacitor : List ℕ) → has_bank noted capacitor ≡ is_bank_controlled elements capacitor
  pub shapes : (shape : List ℕ) → has_shape noted shape ≡ is_shape_followed elements shape

-- what an element names is noted besides
pub record NotesToo (old new : Noted) (element : Element) : Type 0 where
  pub windings : (transformer : List ℕ) (winding : ℕ)
      → has_winding new transformer winding ≡ (controls_winding transformer winding element || has_winding old transformer winding)
  pub banks : (capacitor : List ℕ)
      → has_bank new capacitor ≡ (controls_bank capacitor element || has_bank old capacitor)
  pub shapes : (shape : List ℕ) → has_shape new shape ≡ (follows_shape shape element || has_shape old shape)
