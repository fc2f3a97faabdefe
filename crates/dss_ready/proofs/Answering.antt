-- What each test contributes to the answer.
use Rattle.std.proofs.Common.{◌≡◌, ℕ, ◌<◌, length, Option, Some, Ok, Err, subst}
use Rattle.dss_circuit.specs.dss_model.declared.fault.ModelFault.TheVariants as fault
use Rattle.dss_circuit.specs.dss_model.declared.command.Blame.{Blame}
use Rattle.dss_layout.specs.declared.limits.LayoutFault.{LayoutFault}
use Rattle.dss_layout.specs.declared.limits.LayoutFault.TheVariants.{TooMany}
use Rattle.dss_layout.specs.Layout.{LayoutView, LaysOut, first_too_many, laid_out}
use Rattle.dss_ready.specs.Feeding.{IsFirstIsolated, FirstIsolated}
use Rattle.dss_ready.specs.declared.fault.ReadyFault.{ReadyFault}
use Rattle.dss_ready.specs.declared.fault.ReadyFault.TheVariants as ready_fault
use Rattle.dss_circuit.specs.Circuit.{Elements, CircuitView}
use Rattle.dss_ready.specs.Walk.{Answers}
use Rattle.dss_ready.specs.Ready.{own_blame, blame_at, IsToBlame, for_own, for_many, for_isolated, IsAnswer}
use Rattle.dss_ready.proofs.Limits.{too_many_within, few_where_laid_out, many_where_not_laid_out}

pub own_refusal : (circuit : CircuitView) (f : ReadyFault) → Answers (Err f) (own_blame circuit)
    → IsAnswer circuit (Err f)
own_refusal circuit (ready_fault.Blame blame) h = for_own blame h
own_refusal circuit ready_fault.NoMemory h = tt

pub many_place : (elements : Elements) (place : ℕ) → laid_out elements ≡ Err (TooMany place) → place < length elements
many_place elements place h = too_many_within elements place (many_where_not_laid_out (first_too_many elements) elements place h)

pub many_blame : (circuit : CircuitView) (place : ℕ) (blame : Blame) → own_blame circuit ≡ Ok tt
    → laid_out circuit.elements ≡ Err (TooMany place) → blame_at fault.TooMany circuit.elements place ≡ Some blame
    → IsToBlame circuit blame
many_blame circuit place blame o h e = for_many blame place o (many_where_not_laid_out (first_too_many circuit.elements) circuit.elements place h) e

pub isolated_blame : (circuit : CircuitView) (layout : LayoutView) (found : Option ℕ) (place : ℕ) (blame : Blame)
    → own_blame circuit ≡ Ok tt → laid_out circuit.elements ≡ Ok layout → found ≡ Some place
    → FirstIsolated circuit.elements found → blame_at fault.IsolatedNode circuit.elements place ≡ Some blame
    → IsToBlame circuit blame
isolated_blame circuit layout found place blame o l h f e =
    let first : IsFirstIsolated circuit.elements place = subst (λ (x : Option ℕ). FirstIsolated circuit.elements x) h f in
    for_isolated blame place o (few_where_laid_out (first_too_many circuit.elements) circuit.elements layout l) first e

pub limit_of : (elements : Elements) (f : LayoutFault) (place : ℕ) → f ≡ TooMany place
    → LaysOut (Err f) (laid_out elements) → laid_out elements ≡ Err (TooMany place)
limit_of elements f place e h = subst (λ (x : LayoutFault). LaysOut (Err x) (laid_out elements)) e h
