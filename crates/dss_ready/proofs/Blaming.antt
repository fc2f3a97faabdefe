-- One step of the walk over the elements.
use Rattle.std.proofs.Common.{◌≡◌, ℕ, Bool, [], ◌∷◌, ◌++◌, Option, Result, sym, ap, ◌∙◌}
use Rattle.dss_circuit.specs.dss_model.declared.fault.ModelFault.{ModelFault}
use Rattle.dss_circuit.specs.dss_model.declared.command.Blame.{Blame}
use Rattle.dss_circuit.specs.dss_model.declared.element.Element.{Element}
use Rattle.dss_circuit.specs.dss_model.declared.names.ElementName.{ElementName}
use Rattle.dss_circuit.specs.dss_model.Element.{place_of}
use Rattle.dss_circuit.specs.Circuit.{Elements}
use Rattle.dss_ready.specs.Mentions.{is_second_control}
use Rattle.dss_ready.specs.Walk.{blamed_or, cause_by, first_blame}

pub one_blamed : (hertz : ℕ) (elements before left rest : Elements) (entry : ElementName × Element) (second : Bool)
    (cause : Option ModelFault) (said : Result Unit Blame)
    → left ≡ entry ∷ rest → second ≡ is_second_control before entry.1
    → cause ≡ cause_by hertz elements second entry.0 entry.1 → first_blame hertz elements before left ≡ said
    → blamed_or cause (place_of entry.1) (first_blame hertz elements (before ++ entry ∷ []) rest) ≡ said
one_blamed hertz elements before left rest entry second cause said split s c h =
    ap (λ x. blamed_or x (place_of entry.1) (first_blame hertz elements (before ++ entry ∷ []) rest))
    (c ∙ ap (λ x. cause_by hertz elements x entry.0 entry.1) s)
    ∙ ap (λ l. first_blame hertz elements before l) (sym split)
    ∙ h
