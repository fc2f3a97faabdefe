-- What is noted of elements, one by one.
use Rattle.std.proofs.Common.{◌≡◌, ◌||◌, Bool, true, false, [], ◌∷◌, ◌++◌, refl, sym, ap, ◌∙◌}
use Rattle.std.specs.List.{list_any}
use Rattle.std.proofs.lemmas.List.Folds.{list_any-append}
use Rattle.dss_circuit.specs.dss_model.declared.element.Element.{Element}
use Rattle.dss_circuit.specs.dss_model.declared.names.ElementName.{ElementName}
use Rattle.dss_circuit.specs.Circuit.{Elements}
use Rattle.dss_ready.specs.Mentions.{controls_winding, controls_bank, follows_shape}
use Rattle.dss_ready.specs.Noted.{Noted, Notes, NotesToo, has_winding, has_bank, has_shape}

or_turned : (a b : Bool) → (a || b) ≡ (b || (a || false))
or_turned true true = refl
or_turned true false = refl
or_turned false true = refl
or_turned false false = refl

-- one more is tested
one_more : (f : ElementName × Element → Bool) (before : Elements) (entry : ElementName × Element) (old new : Bool)
    → new ≡ (f entry || old) → old ≡ list_any f before → new ≡ list_any f (before ++ entry ∷ [])
one_more f before entry old new n o = n ∙ ap (λ b. f entry || b) o ∙ or_turned (f entry) (list_any f before) ∙ sym (list_any-append f before (entry ∷ []))

-- those before, with one more
pub notes_more : (old new : Noted) (before : Elements) (entry : ElementName × Element) → NotesToo old new entry.1
    → Notes old before → Notes new (before ++ entry ∷ [])
notes_more old new before entry too h = record {
  windings = λ t n. one_more (λ e. controls_winding t n e.1) before entry (has_winding old t n) (has_winding new t n) (too.windings t n) (h.windings t n);
  banks = λ c. one_more (λ e. controls_bank c e.1) before entry (has_bank old c) (has_bank new c) (too.banks c) (h.banks c);
  shapes = λ s. one_more (λ e. follows_shape s e.1) before entry (has_shape old s) (has_shape new s) (too.shapes s) (h.shapes s);
}
